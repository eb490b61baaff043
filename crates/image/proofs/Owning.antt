-- Records that list stages, one after the other: each stage has its owner in its own field, and all are counted.
use mathlib.Core.Path.{◌≡◌, ◌∙◌, refl, sym, ap, ap₂, subst}
use mathlib.Core.Bool.{Bool, true, false, cond, ◌&&◌}
use mathlib.Core.List.{List, [], ◌∷◌, ◌++◌}
use Prim.Native.Nat.{ℕ, zero, suc, ◌+◌, ◌*◌, ◌-◌, ◌<◌, ◌≤◌}
use native.Mathlib.Numerals.{add-one}
use native.Mathlib.Omega.{arith}
use lib.Dec.{eqb}
use lib.ListN.{length, get_or, set, drop, drop_of_length-le}
use lib.Seq.{drop-cons}
use borrow.Author.Tests.{eqb-false}
use Rattle.vir.specs.Ids.{none}
use Rattle.records.specs.declared.layout.Counts.{Counts}
use Rattle.records.specs.declared.record.Run.{Run}
use Rattle.image.specs.Accepted.{NamedOrNone, entry_at}
use Rattle.records.specs.Bytes.{u16_at}
use Rattle.records.specs.Every.{every}
use Rattle.image.specs.Kind.{all, concat, present}
use Rattle.records.specs.Layout.{refs_at}
use Rattle.image.specs.Tally.{bump, tally}
use Rattle.image.specs.View.{collect}
use Rattle.records.proofs.Every.{every-zero}

pub tally-append : (a b counts : List ℕ) → tally (a ++ b) counts ≡ tally b (tally a counts)
unfolding tally
tally-append [] b counts = refl
tally-append (x ∷ a) b counts = tally-append a b (set counts x (bump (get_or counts x 0)))

-- two tests that agree below n agree on a list that names what is below n
pub all_named : (f g : ℕ → Bool) (e : ℕ → ℕ) (m k n : ℕ) → ((j : ℕ) → k ≤ j → j < k + n → NamedOrNone (e j) m) → ((t : ℕ) → t < m → f t ≡ g t)
    → all f (present (collect e k n)) ≡ all g (present (collect e k n))
unfolding all present collect
all_named f g e m k zero h p = refl
all_named f g e m k (suc n) h p =
    go (eqb (e k) none) refl (all_named f g e m (suc k) n (λ j a b. h j (omega arith) (omega arith)) p)
  where
    go : (b : Bool) → eqb (e k) none ≡ b → all f (present (collect e (suc k) n)) ≡ all g (present (collect e (suc k) n))
        → all f (cond b (present (collect e (suc k) n)) (e k ∷ present (collect e (suc k) n)))
        ≡ all g (cond b (present (collect e (suc k) n)) (e k ∷ present (collect e (suc k) n)))
    go true q r = r
    go false q r = ap₂ ◌&&◌ (p (e k) (h k (omega arith) (omega arith) (eqb-false (e k) none q))) r

-- entries by their place in the list, and by their number among all refs
pub entries-named : (s : List ℕ) (c : Counts) (run : Run) (m : ℕ) → ((k : ℕ) → k < run.count → NamedOrNone (entry_at s c run k) m)
    → (j : ℕ) → run.first ≤ j → j < run.first + run.count → NamedOrNone (u16_at s (refs_at c + 2 * j)) m
entries-named s c run m h j a b =
    let place : refs_at c + 2 * run.first + 2 * (j - run.first) ≡ refs_at c + 2 * j = omega arith in
    subst (λ (p : ℕ). NamedOrNone (u16_at s p) m) place (h (j - run.first) (omega arith))

pub record Owning {A : Type 0} (f : ℕ → Bool) (g : A → List ℕ) (l : List A) (target : List ℕ) (i : ℕ) (ok : Bool) (counts : List ℕ) : Type 0 where
  pub reached : i ≤ length l
  pub own : ok ≡ every i f
  pub ahead : tally (concat g (drop i l)) counts ≡ target

pub owning_start : {A : Type 0} (f : ℕ → Bool) (g : A → List ℕ) (l : List A) (counts : List ℕ) → Owning f g l (tally (concat g l) counts) 0 true counts
owning_start f g l counts = record { reached = omega arith; own = sym (every-zero f); ahead = refl }

module _ {A : Type 0} {f : ℕ → Bool} {g : A → List ℕ} {l : List A} {target : List ℕ} {i : ℕ} {ok : Bool} {counts : List ℕ}
    (w : Owning f g l target i ok counts) where
  pub owning_on : (d : A) {ok' : Bool} {counts' : List ℕ} → i < length l → ok' ≡ (ok && f i) → counts' ≡ tally (g (get_or l i d)) counts
      → Owning f g l target (i + 1) ok' counts'
  unfolding every concat
  owning_on d h p q =
      record {
        reached = omega arith;
        own = p ∙ ap (λ (b : Bool). b && f i) w.own ∙ sym (ap (λ (n : ℕ). every n f) (add-one i));
        ahead =
            ap₂ (λ (n : ℕ) (cs : List ℕ). tally (concat g (drop n l)) cs) (add-one i) q
            ∙ sym (tally-append (g (get_or l i d)) (concat g (drop (suc i) l)) counts)
            ∙ sym (ap (λ (x : List A). tally (concat g x) counts) (drop-cons l i d h)) ∙ w.ahead;
      }

  pub owning_end : length l ≤ i → (ok ≡ every (length l) f) × (counts ≡ target)
  unfolding concat tally
  owning_end h =
      let all_done : i ≡ length l = omega (arith, w.reached) in (
        w.own ∙ ap (λ (n : ℕ). every n f) all_done,
        sym (ap (λ (x : List A). tally (concat g x) counts) (drop_of_length-le l h)) ∙ w.ahead,
      )
