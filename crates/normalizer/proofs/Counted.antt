-- How many stages are put at each number: one for each time that a source stage was begun, and one at each new number, but for the pieces at work.
use mathlib.Core.Path.{◌≡◌, ◌∙◌, refl, sym, ap, ap₂, subst}
use mathlib.Core.Bool.{Bool, true, false}
use mathlib.Core.List.{List, [], ◌∷◌, ◌++◌}
use Prim.Native.Nat.{ℕ, ◌+◌, ◌<◌, ◌≤◌}
use native.Mathlib.Omega.{arith}
use lib.Dec.{eqb, ltb}
use lib.ListN.{length, get_or, set, length-append, length-set, length-replicate, get_or-replicate, get_or-append}
use lib.Seq.{get_or-append_seam, get_or-set_same, get_or-set_other}
use borrow.Author.Tests.{eqb-true, eqb-false, ltb-true, ltb-false}
use Rattle.image.specs.Kind.{occurrences}
use Rattle.image.specs.Vir.{Stage, Vir}
use Rattle.image.proofs.Diverging.{occurrences-append}
use Rattle.normalizer.specs.Normalize.{begun}
use Rattle.normalizer.proofs.Keeping.{Keeping}
use Rattle.normalizer.proofs.Occurrences.{at_self, at_other}

-- how many stages are put at a number
abbrev pub put_at : List (List Stage) → ℕ → ℕ
put_at ts s = length (get_or ts s [])

-- b are the source stages begun so far, q the pieces at work; the first n numbers are the source's
pub record Counted (n : ℕ) (b q : List ℕ) (ts : List (List Stage)) : Type 0 where
  pub room : n ≤ length ts
  pub old : (s : ℕ) → s < n → put_at ts s + occurrences s q ≡ occurrences s b
  pub new : (s : ℕ) → n ≤ s → s < length ts → put_at ts s + occurrences s q ≡ 1
  pub free : (s : ℕ) → length ts ≤ s → occurrences s q ≡ 0

module _ {n : ℕ} {b q : List ℕ} {ts : List (List Stage)} where
  counted_begin : (t : ℕ) → t < n → Counted n b q ts → Counted n (b ++ (t ∷ [])) (t ∷ q) ts
  unfolding occurrences
  counted_begin t h c =
      record {
        room = c.room;
        old = λ s k. omega (arith, c.old s k, occurrences-append s b (t ∷ []));
        new = λ s k l. omega (arith, c.new s k l, at_other s t q (λ e. omega arith));
        free = λ s k. omega (arith, c.free s k, at_other s t q (λ e. omega (arith, c.room)));
      }

  counted_swap : (x y : ℕ) → Counted n b (x ∷ y ∷ q) ts → Counted n b (y ∷ x ∷ q) ts
  unfolding occurrences
  counted_swap x y c =
      record {
        room = c.room;
        old = λ s k. omega (arith, c.old s k);
        new = λ s k l. omega (arith, c.new s k l);
        free = λ s k. omega (arith, c.free s k);
      }

  counted_push : Counted n b q ts → Counted n b (length ts ∷ q) (ts ++ ([] ∷ []))
  counted_push c =
      record {
        room = omega (arith, c.room, longer);
        old = λ s k. omega (arith, c.old s k, before s (omega (arith, c.room)));
        new = λ s k l. go s k l (eqb (length ts) s) refl;
        free = λ s k. omega (arith, c.free s (omega (arith, longer)), at_other s (length ts) q (λ e. omega (arith, longer)));
      }
    where
      longer : length (ts ++ ([] ∷ [])) ≡ length ts + 1
      longer = length-append ts ([] ∷ [])

      before : (s : ℕ) → s < length ts → put_at (ts ++ ([] ∷ [])) s + occurrences s (length ts ∷ q) ≡ put_at ts s + occurrences s q
      before s h = ap₂ ◌+◌ (ap length (get_or-append ts ([] ∷ []) [] s h)) (at_other s (length ts) q (λ e. omega arith))

      go : (s : ℕ) → n ≤ s → s < length (ts ++ ([] ∷ [])) → (t : Bool) → eqb (length ts) s ≡ t
          → put_at (ts ++ ([] ∷ [])) s + occurrences s (length ts ∷ q) ≡ 1
      go s k l true e =
          subst (λ (s : ℕ). put_at (ts ++ ([] ∷ [])) s + occurrences s (length ts ∷ q) ≡ 1) (eqb-true (length ts) s e)
          (omega (arith, ap length (get_or-append_seam ts [] [] []), at_self (length ts) q, c.free (length ts) (omega arith)))
      go s k l false e =
          let apart : length ts ≡ s → ⊥ = eqb-false (length ts) s e in
          let inside : s < length ts = omega (arith, longer) in
          before s inside ∙ c.new s k inside

  counted_put : (id : ℕ) (t : Stage) → Counted n b (id ∷ q) ts → Counted n b q (set ts id (get_or ts id [] ++ (t ∷ [])))
  unfolding occurrences
  counted_put id t c =
      record {
        room = omega (arith, c.room, even);
        old = λ s k. same s ∙ c.old s k;
        new = λ s k l. same s ∙ c.new s k (omega (arith, even));
        free = λ s k. omega (arith, c.free s (omega (arith, even)));
      }
    where
      even : length (set ts id (get_or ts id [] ++ (t ∷ []))) ≡ length ts
      even = length-set ts id (get_or ts id [] ++ (t ∷ []))

      inside : id < length ts
      inside = go (ltb id (length ts)) refl
        where
          go : (x : Bool) → ltb id (length ts) ≡ x → id < length ts
          go true e = ltb-true _ _ e
          go false e = absurd (omega (arith, c.free id (ltb-false id (length ts) e), at_self id q))

      -- one more at id, where one piece less is at work
      same : (s : ℕ) → put_at (set ts id (get_or ts id [] ++ (t ∷ []))) s + occurrences s q ≡ put_at ts s + occurrences s (id ∷ q)
      same s = go (eqb id s) refl
        where
          go : (x : Bool) → eqb id s ≡ x
              → put_at (set ts id (get_or ts id [] ++ (t ∷ []))) s + occurrences s q ≡ put_at ts s + occurrences s (id ∷ q)
          go true e =
              subst
              (λ (s : ℕ). put_at (set ts id (get_or ts id [] ++ (t ∷ []))) s + occurrences s q ≡ put_at ts s + occurrences s (id ∷ q))
              (eqb-true id s e)
              (omega (arith, ap length (get_or-set_same ts id (get_or ts id [] ++ (t ∷ [])) [] inside), length-append (get_or ts id []) (t ∷ []), at_self id q))
          go false e =
              let apart : id ≡ s → ⊥ = eqb-false id s e in
              ap₂ ◌+◌ (ap length (get_or-set_other ts id s (get_or ts id [] ++ (t ∷ [])) [] (λ z. apart (sym z)))) (sym (at_other s id q apart))

pub counted_keeping : (v : Vir) → Keeping v (λ b q n. Counted (length v.stages) b q n.stages)
counted_keeping v = record {
  begin = λ b q n t. counted_begin t;
  push = λ b q n. counted_push;
  swap = λ b q n. counted_swap;
  put = λ b q n. counted_put;
  local = λ b q n x c. c;
  final = λ b q n l i c. c;
}

pub counted_start : (v : Vir) → Counted (length v.stages) [] [] (begun v).stages
unfolding occurrences
counted_start v =
    let long : length (begun v).stages ≡ length v.stages = length-replicate (length v.stages) [] in
    record {
      room = omega arith;
      old = λ s k. omega (arith, ap length (get_or-replicate {A = List Stage} (length v.stages) s [] [] k));
      new = λ s k l. absurd (omega arith);
      free = λ s k. refl;
    }
