-- How often a number stands in a list.
use mathlib.Core.Path.{◌≡◌, ◌∙◌, refl, sym, ap}
use mathlib.Core.Bool.{Bool, cond}
use mathlib.Core.List.{List, [], ◌∷◌, Memᴰ}
use Prim.Native.Nat.{ℕ, ◌+◌, ◌<◌}
use native.Mathlib.Nat.{zero-add}
use native.Mathlib.Omega.{arith}
use borrow.Author.Tests.{eq-eqb, ne_eqb}
use Rattle.image.specs.Kind.{occurrences}

pub at_self : (x : ℕ) (xs : List ℕ) → occurrences x (x ∷ xs) ≡ 1 + occurrences x xs
unfolding occurrences
at_self x xs = ap (λ (b : Bool). cond b 1 0 + occurrences x xs) (eq-eqb x x refl)

pub at_other : (s x : ℕ) (xs : List ℕ) → (x ≡ s → ⊥) → occurrences s (x ∷ xs) ≡ occurrences s xs
unfolding occurrences
at_other s x xs h = ap (λ (b : Bool). cond b 1 0 + occurrences s xs) (ne_eqb x s h) ∙ zero-add (occurrences s xs)

pub member_occurs : {x : ℕ} {xs : List ℕ} → Memᴰ x xs → 0 < occurrences x xs
unfolding occurrences
member_occurs {x} (Memᴰ.head {x = y} {xs} e) = omega (arith, ap (λ (b : Bool). cond b 1 0 + occurrences x xs) (eq-eqb y x (sym e)))
member_occurs (Memᴰ.tail m) = omega (arith, member_occurs m)

-- what does not stand in the list
pub absent : (x : ℕ) (xs : List ℕ) → (Memᴰ x xs → ⊥) → occurrences x xs ≡ 0
unfolding occurrences
absent x [] h = refl
absent x (y ∷ ys) h =
    at_other x y ys (λ e. h (Memᴰ.head (sym e))) ∙ absent x ys (λ m. h (Memᴰ.tail m))
