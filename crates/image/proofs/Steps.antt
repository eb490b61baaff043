-- Which steps name what: of all tags only 6 enters an interface, and only 7 names a layer.
use Rattle.std.specs.Prelude.{None}
use mathlib.Core.Path.{◌≡◌, ◌∙◌, refl, sym, ap}
use mathlib.Core.Bool.{Bool, true, false, ◌&&◌, ◌||◌}
use mathlib.Core.List.{List, [], ◌∷◌}
use Prim.Native.Nat.{ℕ, zero, suc, ◌+◌, ◌<◌, min}
use native.Mathlib.Omega.{arith}
use lib.Dec.{eqb}
use lib.ListN.{length, get_or}
use borrow.Author.Tests.{eqb-true, eqb-false, ne_eqb}
use Rattle.vir.specs.Ids.{none}
use Rattle.vir.specs.Step.{steps, step_of}
use Rattle.image.specs.LayerRules.{transfer_to, diverge_to}
use Rattle.image.specs.View.{step_in}
use Rattle.records.proofs.Guards.{left_true, right_true}

-- of a list, counted from i on, only the n-th names anything
abbrev only_at : {A : Type 0} → (A → List ℕ) → ℕ → ℕ → List A → Bool
only_at f n i [] = true
only_at f n i (x ∷ xs) = (eqb i n || eqb (length (f x)) 0) && only_at f n (suc i) xs

empty : (l : List ℕ) → length l ≡ 0 → l ≡ []
empty [] e = refl
empty (x ∷ l) e = absurd (omega arith)

only_at_lem : {A : Type 0} (f : A → List ℕ) (n i : ℕ) (l : List A) (d : A) → only_at f n i l ≡ true → f d ≡ [] → (k : ℕ) → (i + k ≡ n → ⊥)
    → f (get_or l k d) ≡ []
only_at_lem f n i [] d t e k h = e
only_at_lem f n i (x ∷ xs) d t e zero h =
    empty (f x)
    (eqb-true (length (f x)) 0
    (sym (ap (λ (b : Bool). b || eqb (length (f x)) 0) (ne_eqb i n (λ z. h (omega arith))))
    ∙ left_true (eqb i n || eqb (length (f x)) 0) (only_at f n (suc i) xs) t))
only_at_lem f n i (x ∷ xs) d t e (suc k) h =
    only_at_lem f n (suc i) xs d (right_true (eqb i n || eqb (length (f x)) 0) (only_at f n (suc i) xs) t) e k (λ z. h (omega arith))

module _ (tag a b : ℕ) where
  pub transfer_one : tag ≡ 6 → transfer_to (step_in (step_of tag a b)) ≡ b ∷ []
  unfolding step_of
  transfer_one e = ap (λ (n : ℕ). transfer_to (step_in (step_of n a b))) e

  pub transfer-none : (tag ≡ 6 → ⊥) → transfer_to (step_in (step_of tag a b)) ≡ []
  unfolding step_of
  transfer-none h = only_at_lem (λ f. transfer_to (step_in f)) 6 0 (steps a b) None refl refl tag (λ z. h (omega arith))

  -- an entered interface is the field of the tag that enters one
  pub transfer_named : {i : ℕ} → transfer_to (step_in (step_of tag a b)) ≡ i ∷ [] → (tag ≡ 6) × (b ≡ i)
  transfer_named {i} e = go (eqb tag 6) refl
    where
      go : (t : Bool) → eqb tag 6 ≡ t → (tag ≡ 6) × (b ≡ i)
      go true h =
          let one : b ∷ [] ≡ i ∷ [] = sym (transfer_one (eqb-true tag 6 h)) ∙ e in
          (eqb-true tag 6 h, cc)
      go false h =
          let other : [] ≡ i ∷ [] = sym (transfer-none (eqb-false tag 6 h)) ∙ e in
          absurd cc

  pub diverge_one : tag ≡ 7 → a < none → diverge_to (step_in (step_of tag a b)) ≡ a ∷ []
  unfolding step_of
  diverge_one e h =
      let small : min a none ≡ a = omega arith in
      ap (λ (n : ℕ). diverge_to (step_in (step_of n a b))) e ∙ ap {B = List ℕ} (λ (n : ℕ). n ∷ []) small

  pub diverge_none : (tag ≡ 7 → ⊥) → diverge_to (step_in (step_of tag a b)) ≡ []
  unfolding step_of
  diverge_none h = only_at_lem (λ f. diverge_to (step_in f)) 7 0 (steps a b) None refl refl tag (λ z. h (omega arith))
