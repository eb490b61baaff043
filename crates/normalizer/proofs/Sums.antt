-- Sums over a list and over the numbers below another, and how often a number stands in lists one behind the other.
use mathlib.Core.Path.{◌≡◌, ◌∙◌, refl, sym, ap, ap₂}
use mathlib.Core.Bool.{Bool, true, false, cond}
use mathlib.Core.List.{List, [], ◌∷◌, Memᴰ}
use Prim.Native.Nat.{ℕ, zero, suc, ◌+◌, ◌*◌, ◌<◌}
use native.Mathlib.Nat.{add-mul, zero-add, zero-mul, one-mul, not-suc-le-zero}
use native.Mathlib.Omega.{arith}
use lib.Dec.{eqb}
use lib.ListN.{length, get_or}
use borrow.Author.Tests.{eq-eqb, ne_eqb, eqb-true, eqb-false}
use Rattle.image.specs.Kind.{concat, occurrences}
use Rattle.image.proofs.Diverging.{occurrences-append}

unfoldable pub total : {A : Type 0} → (A → ℕ) → List A → ℕ
total f [] = 0
total f (x ∷ xs) = f x + total f xs

-- f 0 + .. + f (n - 1)
unfoldable pub below : ℕ → (ℕ → ℕ) → ℕ
below zero f = 0
below (suc n) f = below n f + f n

-- one where two numbers are the same
abbrev pub one : ℕ → ℕ → ℕ
one x y = cond (eqb x y) 1 0

pub one_same : (x y : ℕ) → x ≡ y → one x y ≡ 1
one_same x y e = ap (λ (b : Bool). cond b 1 0) (eq-eqb x y e)

pub one_apart : (x y : ℕ) → (x ≡ y → ⊥) → one x y ≡ 0
one_apart x y h = ap (λ (b : Bool). cond b 1 0) (ne_eqb x y h)

one_sym : (x y : ℕ) → one x y ≡ one y x
one_sym x y = go (eqb x y) refl
  where
    go : (b : Bool) → eqb x y ≡ b → one x y ≡ one y x
    go true e = one_same x y (eqb-true x y e) ∙ sym (one_same y x (sym (eqb-true x y e)))
    go false e = one_apart x y (eqb-false x y e) ∙ sym (one_apart y x (λ z. eqb-false x y e (sym z)))

module _ {A : Type 0} where
  pub total_cong : (f g : A → ℕ) (xs : List A) → ((x : A) → Memᴰ x xs → f x ≡ g x) → total f xs ≡ total g xs
  unfolding total
  total_cong f g [] h = refl
  total_cong f g (x ∷ xs) h = ap₂ ◌+◌ (h x (Memᴰ.head refl)) (total_cong f g xs (λ y m. h y (Memᴰ.tail m)))

  pub total-zero : (f : A → ℕ) (xs : List A) → ((x : A) → Memᴰ x xs → f x ≡ 0) → total f xs ≡ 0
  unfolding total
  total-zero f [] h = refl
  total-zero f (x ∷ xs) h = ap₂ ◌+◌ (h x (Memᴰ.head refl)) (total-zero f xs (λ y m. h y (Memᴰ.tail m)))

  pub total-add : (f g : A → ℕ) (xs : List A) → total (λ x. f x + g x) xs ≡ total f xs + total g xs
  unfolding total
  total-add f g [] = refl
  total-add f g (x ∷ xs) = omega (arith, total-add f g xs)

  pub occurrences-concat : (s : ℕ) (g : A → List ℕ) (xs : List A) → occurrences s (concat g xs) ≡ total (λ x. occurrences s (g x)) xs
  unfolding occurrences concat total
  occurrences-concat s g [] = refl
  occurrences-concat s g (x ∷ xs) =
      occurrences-append s (g x) (concat g xs) ∙ ap (λ (k : ℕ). occurrences s (g x) + k) (occurrences-concat s g xs)

pub occurrences-nil : (s : ℕ) → occurrences s [] ≡ 0
unfolding occurrences
occurrences-nil s = refl

pub total-none : (ys : List ℕ) → total (λ y. occurrences y []) ys ≡ 0
total-none ys = total-zero _ ys (λ y m. occurrences-nil y)

pub occurrences-cons : (s x : ℕ) (xs : List ℕ) → occurrences s (x ∷ xs) ≡ one x s + occurrences s xs
unfolding occurrences
occurrences-cons s x xs = refl

pub total_one : (s : ℕ) (xs : List ℕ) → total (λ x. one x s) xs ≡ occurrences s xs
unfolding total occurrences
total_one s [] = refl
total_one s (x ∷ xs) = ap (λ (k : ℕ). one x s + k) (total_one s xs)

-- how often those of one list stand in another, by the other's first
pub total-cons : (x : ℕ) (ys xs : List ℕ) → total (λ y. occurrences y (x ∷ xs)) ys ≡ occurrences x ys + total (λ y. occurrences y xs) ys
unfolding occurrences
total-cons x ys xs =
    total-add (λ y. one x y) (λ y. occurrences y xs) ys
    ∙ ap (λ (k : ℕ). k + total (λ y. occurrences y xs) ys) (total_cong (λ y. one x y) (λ y. one y x) ys (λ y m. one_sym x y) ∙ total_one x ys)

pub below_cong : (n : ℕ) (f g : ℕ → ℕ) → ((k : ℕ) → k < n → f k ≡ g k) → below n f ≡ below n g
unfolding below
below_cong zero f g h = refl
below_cong (suc n) f g h = ap₂ ◌+◌ (below_cong n f g (λ k l. h k (omega arith))) (h n (omega arith))

pub below-zero : (n : ℕ) (f : ℕ → ℕ) → ((k : ℕ) → k < n → f k ≡ 0) → below n f ≡ 0
unfolding below
below-zero zero f h = refl
below-zero (suc n) f h = ap₂ ◌+◌ (below-zero n f (λ k l. h k (omega arith))) (h n (omega arith))

below-add : (n : ℕ) (f g : ℕ → ℕ) → below n (λ k. f k + g k) ≡ below n f + below n g
unfolding below
below-add zero f g = refl
below-add (suc n) f g = omega (arith, below-add n f g)

-- the sum where all but one are nothing
pub below_only : (n : ℕ) (f : ℕ → ℕ) (k : ℕ) → k < n → ((j : ℕ) → (j ≡ k → ⊥) → f j ≡ 0) → below n f ≡ f k
unfolding below
below_only zero f k h z = absurd (not-suc-le-zero h)
below_only (suc n) f k h z = go (eqb n k) refl (λ (l : k < n). below_only n f k l z)
  where
    go : (b : Bool) → eqb n k ≡ b → (k < n → below n f ≡ f k) → below n f + f n ≡ f k
    go true e r =
        let same : n ≡ k = eqb-true n k e in
        ap₂ ◌+◌ (below-zero n f (λ j l. z j (λ q. omega arith))) (ap f same) ∙ zero-add (f k)
    go false e r =
        let apart : n ≡ k → ⊥ = eqb-false n k e in
        omega (arith, r (omega arith), z n apart)

below_front : (n : ℕ) (f : ℕ → ℕ) → below (suc n) f ≡ f 0 + below n (λ k. f (suc k))
unfolding below
below_front zero f = omega arith
below_front (suc n) f = omega (arith, below_front n f)

-- a list's sum is by its places
pub total_places : {A : Type 0} (d : A) (f : A → ℕ) (xs : List A) → total f xs ≡ below (length xs) (λ k. f (get_or xs k d))
unfolding total below
total_places d f [] = refl
total_places d f (x ∷ xs) =
    ap (λ (k : ℕ). f x + k) (total_places d f xs) ∙ sym (below_front (length xs) (λ k. f (get_or (x ∷ xs) k d)))

-- and by how often each number stands in it
pub total-numbers : (n : ℕ) (f : ℕ → ℕ) (xs : List ℕ) → ((x : ℕ) → Memᴰ x xs → x < n) → total f xs ≡ below n (λ t. occurrences t xs * f t)
unfolding total occurrences
total-numbers n f [] h = sym (below-zero n (λ t. 0 * f t) (λ k l. zero-mul (f k)))
total-numbers n f (x ∷ xs) h =
    ap₂ ◌+◌
    (sym
    (below_only n (λ t. one x t * f t) x (h x (Memᴰ.head refl))
    (λ j a. ap (λ (k : ℕ). k * f j) (one_apart x j (λ e. a (sym e))) ∙ zero-mul (f j))
    ∙ ap (λ (k : ℕ). k * f x) (one_same x x refl) ∙ one-mul (f x)))
    (total-numbers n f xs (λ y m. h y (Memᴰ.tail m)))
    ∙ sym (below-add n (λ t. one x t * f t) (λ t. occurrences t xs * f t))
    ∙ sym (below_cong n _ _ (λ t l. add-mul (one x t) (occurrences t xs) (f t)))
