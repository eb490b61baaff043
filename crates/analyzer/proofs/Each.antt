-- A condition on each element of a list.
use mathlib.Core.List.{List, [], ◌∷◌, ◌++◌}
use Prim.Native.Nat.{ℕ, zero, suc, ◌<◌}
use native.Mathlib.Nat.{le_of_suc-le-suc, not-suc-le-zero}
use native.Mathlib.Omega.{arith}
use lib.ListN.{length, get_or}

abbrev pub Each : {A : Type 0} → (A → Type 0) → List A → Type 0
Each P [] = Unit
Each P (x ∷ xs) = P x × Each P xs

module _ {A : Type 0} where
  pub each_append : (P : A → Type 0) (xs : List A) (x : A) → Each P xs → P x → Each P (xs ++ (x ∷ []))
  each_append P [] x h p = (p, tt)
  each_append P (y ∷ ys) x h p = (h.0, each_append P ys x h.1 p)

  pub each_weaken : (P Q : A → Type 0) → ((x : A) → P x → Q x) → (xs : List A) → Each P xs → Each Q xs
  each_weaken P Q f [] h = tt
  each_weaken P Q f (x ∷ xs) h = (f x h.0, each_weaken P Q f xs h.1)

  -- an element, or a default that meets the condition
  pub each-get_or : (P : A → Type 0) (xs : List A) (k : ℕ) (d : A) → Each P xs → P d → P (get_or xs k d)
  each-get_or P [] k d h p = p
  each-get_or P (x ∷ xs) zero d h p = h.0
  each-get_or P (x ∷ xs) (suc k) d h p = each-get_or P xs k d h.1 p

  -- an element that is there
  pub each_at : (P : A → Type 0) (xs : List A) (k : ℕ) (d : A) → Each P xs → k < length xs → P (get_or xs k d)
  each_at P [] k d h l = absurd (not-suc-le-zero l)
  each_at P (x ∷ xs) zero d h l = h.0
  each_at P (x ∷ xs) (suc k) d h l = each_at P xs k d h.1 (le_of_suc-le-suc l)

  -- .. and back
  pub each_from : (P : A → Type 0) (xs : List A) (d : A) → ((k : ℕ) → k < length xs → P (get_or xs k d)) → Each P xs
  each_from P [] d f = tt
  each_from P (x ∷ xs) d f = (f 0 (omega arith), each_from P xs d (λ k h. f (suc k) (omega (arith, h))))

  pub each_left : (P : A → Type 0) (xs ys : List A) → Each P (xs ++ ys) → Each P xs
  each_left P [] ys h = tt
  each_left P (x ∷ xs) ys h = (h.0, each_left P xs ys h.1)

  pub each_right : (P : A → Type 0) (xs ys : List A) → Each P (xs ++ ys) → Each P ys
  each_right P [] ys h = h
  each_right P (x ∷ xs) ys h = each_right P xs ys h.1

  pub each_both : (P : A → Type 0) (xs ys : List A) → Each P xs → Each P ys → Each P (xs ++ ys)
  each_both P [] ys h k = k
  each_both P (x ∷ xs) ys h k = (h.0, each_both P xs ys h.1 k)
