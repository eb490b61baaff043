-- The layers without a parent, from l on: none below l, and each of the others once.
use mathlib.Core.Path.{◌≡◌, ◌∙◌, ap}
use mathlib.Core.Bool.{Bool, true, false, cond}
use mathlib.Core.List.Memᴰ
use mathlib.Core.List.{List, [], ◌∷◌, Memᴰ}
use mathlib.Core.Logic.{◌⊎◌, inl, inr}
use Prim.Native.Nat.{ℕ, zero, suc, ◌+◌, ◌<◌}
use native.Mathlib.Nat.{not-suc-le-zero, le_of_suc-le-suc}
use native.Mathlib.Omega.{arith}
use lib.Dec.{eqb}
use lib.ListN.{length, get_or}
use Rattle.vir.specs.Ids.{none}
use Rattle.image.specs.Kind.{occurrences}
use Rattle.image.specs.Vir.{Layer}
use Rattle.normalizer.proofs.Keeping.{roots_from}
use Rattle.normalizer.proofs.Occurrences.{at_other}
use Rattle.normalizer.proofs.Sums.{one, one_same, occurrences-nil, occurrences-cons}

roots_early : (l x : ℕ) (xs : List Layer) → x < l → occurrences x (roots_from l xs) ≡ 0
unfolding roots_from
roots_early l x [] h = occurrences-nil x
roots_early l x (y ∷ ys) h = go (eqb y.parent none) (roots_early (suc l) x ys (omega arith))
  where
    go : (b : Bool) → occurrences x (roots_from (suc l) ys) ≡ 0
        → occurrences x (elim b [ true ↦ l ∷ roots_from (suc l) ys | false ↦ roots_from (suc l) ys ]) ≡ 0
    go true r = at_other x l (roots_from (suc l) ys) (λ e. omega arith) ∙ r
    go false r = r

pub roots-at : (l k : ℕ) (xs : List Layer) → k < length xs
    → occurrences (l + k) (roots_from l xs) ≡ one (get_or xs k (record { parent = none; stages = [] })).parent none
unfolding roots_from
roots-at l k [] h = absurd (not-suc-le-zero h)
roots-at l zero (y ∷ ys) h = go (eqb y.parent none) (roots_early (suc l) (l + 0) ys (omega arith))
  where
    go : (b : Bool) → occurrences (l + 0) (roots_from (suc l) ys) ≡ 0
        → occurrences (l + 0) (elim b [ true ↦ l ∷ roots_from (suc l) ys | false ↦ roots_from (suc l) ys ]) ≡ cond b 1 0
    go true r = omega (arith, occurrences-cons (l + 0) l (roots_from (suc l) ys), one_same l (l + 0) (omega arith))
    go false r = r
roots-at l (suc k) (y ∷ ys) h =
    go (eqb y.parent none)
    (ap (λ (n : ℕ). occurrences n (roots_from (suc l) ys)) (omega arith) ∙ roots-at (suc l) k ys (le_of_suc-le-suc h))
  where
    go : (b : Bool)
        → occurrences (l + suc k) (roots_from (suc l) ys) ≡ one (get_or ys k (record { parent = none; stages = [] })).parent none
        → occurrences (l + suc k) (elim b [ true ↦ l ∷ roots_from (suc l) ys | false ↦ roots_from (suc l) ys ])
        ≡ one (get_or ys k (record { parent = none; stages = [] })).parent none
    go true r = at_other (l + suc k) l (roots_from (suc l) ys) (λ e. omega arith) ∙ r
    go false r = r

pub roots_exist : (l : ℕ) {x : ℕ} (xs : List Layer) → Memᴰ x (roots_from l xs) → x < l + length xs
unfolding roots_from
roots_exist l [] m = absurd (Memᴰ.not-nil m)
roots_exist l {x} (y ∷ ys) m = go (eqb y.parent none) m (λ (m : Memᴰ x (roots_from (suc l) ys)). roots_exist (suc l) ys m)
  where
    go : (b : Bool) → Memᴰ x (elim b [ true ↦ l ∷ roots_from (suc l) ys | false ↦ roots_from (suc l) ys ])
        → (Memᴰ x (roots_from (suc l) ys) → x < suc l + length ys) → x < l + length (y ∷ ys)
    go true m r = cases (Memᴰ.cases_cons m)
      where
        cases : (x ≡ l) ⊎ Memᴰ x (roots_from (suc l) ys) → x < l + length (y ∷ ys)
        cases (inl e) = omega arith
        cases (inr m) = omega (arith, r m)
    go false m r = omega (arith, r m)
