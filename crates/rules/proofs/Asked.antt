-- What the code asks of a count, tag by tag, is what the definitions say.
use Rattle.std.specs.Prelude.{None, Option, Some}
use mathlib.Core.Path.{◌≡◌, ◌∙◌, refl, sym, ap, ap₂, subst}
use mathlib.Core.Bool.{Bool, true, false, cond, not, ◌&&◌, ◌||◌, and-true, and-false}
use Prim.Native.Nat.{ℕ, zero, suc, ◌+◌, ◌/◌, ◌-◌, ◌≤◌, ◌<◌}
use native.Mathlib.Nat.{not-suc-le-zero}
use native.Mathlib.Omega.{arith}
use lib.Dec.{eqb, leb, ltb}
use lib.ListN.{get_or-eq_default}
use borrow.Author.Tests.{eqb-true, eqb-false, le-leb}
use Rattle.vir.specs.declared.step.Step.TheVariants.{Diverge}
use Rattle.vir.specs.Ids.{none, layer_id_of}
use Rattle.vir.specs.Step.{steps, step_of}
use Rattle.records.specs.declared.layout.Counts.{Counts}
use Rattle.records.specs.declared.record.StepRecord.{StepRecord}
use Rattle.rules.specs.Faults.{or_none, step_has, step_named, step_fields}
use Rattle.rules.proofs.Fits.{named-invoke, named-transfer, named_diverge, named_other}
use Rattle.vir.specs.declared.step.Step.{Step}

-- what holds at each of the first m numbers
abbrev pub Each : (ℕ → Type 0) → ℕ → Type 0
Each P zero = Unit
Each P (suc m) = Each P m × P m

pub each_at : (P : ℕ → Type 0) (m : ℕ) → Each P m → (k : ℕ) → k < m → P k
each_at P zero e k h = absurd (not-suc-le-zero h)
each_at P (suc m) e k h = go (eqb k m) refl (λ (l : k < m). each_at P m e.0 k l)
  where
    go : (b : Bool) → eqb k m ≡ b → (k < m → P k) → P k
    go true q r = subst P (sym (eqb-true k m q)) e.1
    go false q r = let apart : k ≡ m → ⊥ = eqb-false k m q in r (omega arith)

-- 2, 1+, 1, 1+, 2, 2, 2, 3, 1+, 1+, 1+, 2, 3 from 8 on
abbrev pub other_asked : ℕ → ℕ → Bool
other_asked tag n =
    cond (eqb tag 9 || eqb tag 11 || (leb 16 tag && leb tag 18)) (leb 1 n)
    (cond (eqb tag 10) (eqb n 1) (cond (eqb tag 15 || eqb tag 20) (eqb n 3) (eqb n 2)))

pub other_asked_lem : (tag a b n : ℕ) {x : Bool} → 8 ≤ tag → tag ≤ 20 → x ≡ other_asked tag n → x ≡ step_has (step_of tag a b) n
unfolding step_of
other_asked_lem tag a b n h k p =
    let from-eight : 8 + (tag - 8) ≡ tag = omega arith in
    p
    ∙ subst (λ (t : ℕ). other_asked t n ≡ step_has (step_of t a b) n) from-eight
    (each_at (λ j. other_asked (8 + j) n ≡ step_has (step_of (8 + j) a b) n) 13
    (((((((((((((tt, refl), refl), refl), refl), refl), refl), refl), refl), refl), refl), refl), refl), refl) (tag - 8) (omega arith))

no_other : (tag a b n : ℕ) → 20 < tag → step_has (step_of tag a b) n ≡ false
unfolding step_of
no_other tag a b n h = ap (λ (f : Option Step). step_has f n) (get_or-eq_default (steps a b) None h)

turned : (x y z : Bool) → (x && y && z) ≡ (z && x && y)
turned x y true = and-true (x && y)
turned x y false = and-false (x && y)

swapped : (x y : Bool) → (x && y) ≡ (y && x)
swapped true y = sym (and-true y)
swapped false y = sym (and-false y)

module _ (c : Counts) (t : StepRecord) where
  abbrev n : ℕ
  n = t.ports.count

  abbrev has : ℕ → Bool
  has tag = step_has (step_of tag t.a t.b) n

  -- 0, 1, 1, 1, 1, 2
  pub step-invoked : t.tag ≤ 5 → (eqb n ((t.tag + 3) / 4) && ltb t.b c.locals) ≡ step_fields c t
  unfolding step_of
  step-invoked h =
      ap₂ ◌&&◌ (each_at (λ k. eqb n ((k + 3) / 4) ≡ has k) 6 ((((((tt, refl), refl), refl), refl), refl), refl) t.tag (omega arith))
      (named-invoke c t h)

  pub step-transfers : t.tag ≡ 6 → (leb n 1 && (eqb t.a 0 && ltb t.b c.interfaces)) ≡ step_fields c t
  unfolding step_of
  step-transfers h = ap₂ ◌&&◌ (sym (ap has h)) (named-transfer c t (omega (arith, h)) h)

  -- 0 or 1, 0 without an interface
  diverges : (x : Bool) → ((not x || eqb n 0) && leb n 1) ≡ step_has (Some (Diverge (layer_id_of t.a) (cond x None (Some (record { 0 = t.b }))))) n
  diverges false = refl
  diverges true = go (eqb n 0) refl
    where
      go : (x : Bool) → eqb n 0 ≡ x → (x && leb n 1) ≡ x
      go true e = let zeroth : n ≡ 0 = eqb-true n 0 e in le-leb n 1 (omega arith)
      go false e = refl

  pub step_diverges : {named : Bool} → t.tag ≡ 7 → named ≡ or_none c.interfaces t.b
      → (leb n 1 && (ltb t.a c.layers && named) && (not (eqb t.b none) || eqb n 0)) ≡ step_fields c t
  unfolding step_of
  step_diverges {named} h e =
      turned (leb n 1) (ltb t.a c.layers && named) (not (eqb t.b none) || eqb n 0)
      ∙ ap₂ ◌&&◌ (diverges (eqb t.b none) ∙ sym (ap has h))
      (named_diverge c t (omega (arith, h)) (λ (k : t.tag ≡ 6). omega (arith, h, k)) h e)

  pub step_others : {found : Bool} → 8 ≤ t.tag → found ≡ has t.tag → (eqb t.b 0 && found) ≡ step_fields c t
  step_others {found} h e =
      swapped (eqb t.b 0) found
      ∙ ap₂ ◌&&◌ e
      (named_other c t (omega (arith, h)) (λ (k : t.tag ≡ 6). omega (arith, h, k)) (λ (k : t.tag ≡ 7). omega (arith, h, k)))

  pub step-none : 20 < t.tag → false ≡ step_fields c t
  step-none h = sym (ap (λ (x : Bool). x && step_named c t) (no_other t.tag t.a t.b n h))
