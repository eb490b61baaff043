-- Lists one behind the other, and loops over lists, by what stands in them.
use mathlib.Core.Path.{◌≡◌, ◌∙◌, refl, sym, ap, subst}
use mathlib.Core.Bool.{Bool, true}
use mathlib.Core.List.Memᴰ
use mathlib.Core.List.{List, [], ◌∷◌, ◌++◌, Memᴰ, append-nil, append_assoc}
use Prim.Native.Nat.{ℕ, zero, suc, ◌<◌}
use native.Mathlib.Nat.{not-suc-le-zero, le_of_suc-le-suc}
use lib.ListN.{length, get_or}
use Rattle.records.proofs.Guards.{left_true, right_true}
use Rattle.image.specs.Kind.{all, concat}
use Rattle.image.specs.Loops.{each}

module _ {A : Type 0} where
  -- what all of a list have, each of it has
  pub all-at : {x : A} {xs : List A} (f : A → Bool) → all f xs ≡ true → Memᴰ x xs → f x ≡ true
  unfolding all
  all-at f h (Memᴰ.head {x = y} {xs} e) = ap f e ∙ left_true (f y) (all f xs) h
  all-at f h (Memᴰ.tail {x = y} {xs} m) = all-at f (right_true (f y) (all f xs) h) m

  pub member_at : (xs : List A) (n : ℕ) (d : A) → n < length xs → Memᴰ (get_or xs n d) xs
  member_at [] n d h = absurd (not-suc-le-zero h)
  member_at (x ∷ xs) zero d h = Memᴰ.head refl
  member_at (x ∷ xs) (suc n) d h = Memᴰ.tail (member_at xs n d (le_of_suc-le-suc h))

  module _ {B : Type 0} where
    pub member_concat : {x : A} {y : B} {xs : List A} (g : A → List B) → Memᴰ x xs → Memᴰ y (g x) → Memᴰ y (concat g xs)
    unfolding concat
    member_concat {y = y} g (Memᴰ.head {x = z} {xs} e) m =
        Memᴰ.append_left (concat g xs) (subst (λ (w : A). Memᴰ y (g w)) e m)
    member_concat g (Memᴰ.tail {x = z} {xs} k) m = Memᴰ.append_right (g z) (member_concat g k m)

module _ {B C : Type 0} (f : B → List C) where
  concat-append : (xs ys : List B) → concat f (xs ++ ys) ≡ concat f xs ++ concat f ys
  unfolding concat
  concat-append [] ys = refl
  concat-append (x ∷ xs) ys = ap (λ (l : List C). f x ++ l) (concat-append xs ys) ∙ sym (append_assoc (f x) (concat f xs) (concat f ys))

  pub concat-concat : {A : Type 0} (g : A → List B) (xs : List A) → concat (λ x. concat f (g x)) xs ≡ concat f (concat g xs)
  unfolding concat
  concat-concat g [] = refl
  concat-concat g (x ∷ xs) = ap (λ (l : List C). concat f (g x) ++ l) (concat-concat g xs) ∙ sym (concat-append (g x) (concat g xs))

module _ {A S : Type 0} where
  -- bodies that agree on what stands in the list
  pub each_cong : (f g : A → S → S) (xs : List A) → ((x : A) → Memᴰ x xs → (s : S) → f x s ≡ g x s) → (s : S) → each f xs s ≡ each g xs s
  unfolding each
  each_cong f g [] h s = refl
  each_cong f g (x ∷ xs) h s =
      ap (each f xs) (h x (Memᴰ.head refl) s) ∙ each_cong f g xs (λ y m. h y (Memᴰ.tail m)) (g x s)

  each_append : (f : A → S → S) (xs ys : List A) (s : S) → each f (xs ++ ys) s ≡ each f ys (each f xs s)
  unfolding each
  each_append f [] ys s = refl
  each_append f (x ∷ xs) ys s = each_append f xs ys (f x s)

  -- a loop over lists one behind the other is a loop over loops
  pub each-concat : {B : Type 0} (f : A → S → S) (g : B → List A) (xs : List B) (s : S) → each f (concat g xs) s ≡ each (λ x s. each f (g x) s) xs s
  unfolding each concat
  each-concat f g [] s = refl
  each-concat f g (x ∷ xs) s = each_append f (g x) (concat g xs) s ∙ each-concat f g xs (each f (g x) s)

  pub each_keeps : (P : S → Type 0) (f : A → S → S) (xs : List A) → ((x : A) (s : S) → P s → P (f x s)) → (s : S) → P s → P (each f xs s)
  unfolding each
  each_keeps P f [] h s i = i
  each_keeps P f (x ∷ xs) h s i = each_keeps P f xs h (f x s) (h x s i)

  -- a property with a list that grows by what each turn adds
  pub each_grows : {B : Type 0} (P : List B → S → Type 0) (f : A → S → S) (g : A → List B) (xs : List A)
      → ((x : A) → Memᴰ x xs → (b : List B) (s : S) → P b s → P (b ++ g x) (f x s)) → (b : List B) (s : S) → P b s
      → P (b ++ concat g xs) (each f xs s)
  unfolding each concat
  each_grows {B} P f g [] h b s i = subst (λ (c : List B). P c s) (sym (append-nil b)) i
  each_grows {B} P f g (x ∷ xs) h b s i =
      subst (λ (c : List B). P c (each f xs (f x s))) (append_assoc b (g x) (concat g xs))
      (each_grows P f g xs (λ y m. h y (Memᴰ.tail m)) (b ++ g x) (f x s) (h x (Memᴰ.head refl) b s i))
