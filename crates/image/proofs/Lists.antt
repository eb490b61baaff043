-- A list that is the values of a function from one number up to another: such lists joined, counted, and known by their ends.
use mathlib.Core.Path.{◌≡◌, ◌∙◌, refl, sym, ap}
use mathlib.Core.List.{List, [], ◌∷◌, ◌++◌}
use Prim.Native.Nat.{ℕ, zero, suc, ◌+◌}
use native.Mathlib.Nat.{add-zero, zero-add, suc-add}
use native.Mathlib.Omega.{arith}
use lib.ListN.{length, get_or}
use Rattle.image.specs.Kind.{concat}
use Rattle.image.specs.View.{collect}
use Rattle.image.proofs.Viewing.{length-collect}

infixl 40 ◌then◌
-- l is h a, h (a + 1) and so on, up to e
pub record Lists {A : Type 0} (h : ℕ → A) (a e : ℕ) (l : List A) : Type 0 where
  pub count : ℕ
  pub ends : e ≡ a + count
  pub same : l ≡ collect h a count

module _ {A : Type 0} where
  collect-append : (h : ℕ → A) (a n m : ℕ) → collect h a n ++ collect h (a + n) m ≡ collect h a (n + m)
  unfolding collect
  collect-append h a zero m = rw (add-zero, zero-add) refl
  collect-append h a (suc n) m =
      ap (λ (k : ℕ). h a ∷ (collect h (suc a) n ++ collect h k m)) (omega arith)
      ∙ ap (λ (l : List A). h a ∷ l) (collect-append h (suc a) n m)
      ∙ ap (λ (k : ℕ). collect h a k) (sym (suc-add n m))

  -- the values of h from a number on
  pub lists_collect : (h : ℕ → A) (a n : ℕ) → Lists h a (a + n) (collect h a n)
  lists_collect h a n = record { count = n; ends = refl; same = refl }

module _ {A : Type 0} {h : ℕ → A} where
  pub lists_move : {a a' e e' : ℕ} {l : List A} → a ≡ a' → e ≡ e' → Lists h a e l → Lists h a' e' l
  lists_move {a} {a'} p q x =
      record { count = x.count; ends = omega arith; same = x.same ∙ ap (λ (k : ℕ). collect h k x.count) p }

  pub lists_as : {a e : ℕ} {l m : List A} → l ≡ m → Lists h a e l → Lists h a e m
  lists_as p x = record { count = x.count; ends = x.ends; same = sym p ∙ x.same }

  pub lists_none : {a e : ℕ} → a ≡ e → Lists h a e []
  unfolding collect
  lists_none p = record { count = 0; ends = omega arith; same = refl }

  pub lists_one : {a e : ℕ} {x : A} → h a ≡ x → e ≡ a + 1 → Lists h a e (x ∷ [])
  unfolding collect
  lists_one p q = record { count = 1; ends = q; same = ap (λ (y : A). y ∷ []) (sym p) }

  pub ◌then◌ : {a b e : ℕ} {l m : List A} → Lists h a b l → Lists h b e m → Lists h a e (l ++ m)
  ◌then◌ {a} {b} {e} {l} {m} x y =
      record {
        count = x.count + y.count;
        ends = omega arith;
        same =
            ap (λ (k : List A). k ++ m) x.same
            ∙ ap (λ (k : List A). collect h a x.count ++ k) y.same
            ∙ ap (λ (k : ℕ). collect h a x.count ++ collect h k y.count) x.ends
            ∙ collect-append h a x.count y.count;
      }

  pub lists_length : {a e : ℕ} {l : List A} → Lists h a e l → a + length l ≡ e
  lists_length {a} x = ap (λ (l : List A). a + length l) x.same ∙ ap (λ (n : ℕ). a + n) (length-collect h a x.count) ∙ sym x.ends

  -- its ends are all that there is to such a list
  pub lists_unique : {a e : ℕ} {l m : List A} → Lists h a e l → Lists h a e m → l ≡ m
  lists_unique {a} x y =
      let even : x.count ≡ y.count = omega arith in
      x.same ∙ ap (λ (n : ℕ). collect h a n) even ∙ sym y.same

  pub lists_all : {a e n : ℕ} {l : List A} → Lists h a e l → a ≡ 0 → e ≡ n → l ≡ collect h 0 n
  lists_all {n = n} x p q = lists_unique (lists_move p q x) (lists_move refl (zero-add n) (lists_collect h 0 n))

-- a list is its own elements
elements : {A : Type 0} (d : A) (h : ℕ → A) (a : ℕ) (s : List A) → ((k : ℕ) → h (a + k) ≡ get_or s k d) → s ≡ collect h a (length s)
unfolding collect
elements d h a [] f = refl
elements d h a (x ∷ s) f =
    λ i. sym (ap h (sym (add-zero a)) ∙ f 0) i ∷ elements d h (suc a) s (λ k. ap h (omega arith) ∙ f (suc k)) i

pub lists_whole : {A : Type 0} (d : A) (s : List A) → Lists (λ k. get_or s k d) 0 (length s) s
lists_whole d s =
    record { count = length s; ends = omega arith; same = elements d (λ k. get_or s k d) 0 s (λ k. ap (λ (n : ℕ). get_or s n d) (zero-add k)) }

-- lists that lie end to end, the i-th from at i up to at (i + 1)
module _ {A B : Type 0} (h : ℕ → B) (f : ℕ → A) (g : A → List B) (at : ℕ → ℕ) (each : (i : ℕ) → Lists h (at i) (at (suc i)) (g (f i))) where
  pub lists_concat : (i n : ℕ) → Lists h (at i) (at (i + n)) (concat g (collect f i n))
  unfolding concat collect
  lists_concat i zero = lists_none (ap at (omega arith))
  lists_concat i (suc n) = lists_move refl (ap at (omega arith)) (each i then lists_concat (suc i) n)
