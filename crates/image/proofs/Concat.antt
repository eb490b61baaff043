-- Lists one behind the other: how long they are together, and, where they are of one length, where each stands.
use mathlib.Core.Path.{◌≡◌, ◌∙◌, sym, ap}
use mathlib.Core.List.{List, [], ◌∷◌, ◌++◌}
use Prim.Native.Nat.{ℕ, zero, suc, ◌+◌, ◌*◌, ◌<◌, ◌≤◌}
use native.Mathlib.Nat.{mul-zero, mul-suc, mul-le-mul_left, not-suc-le-zero, le_of_suc-le-suc}
use native.Mathlib.Omega.{arith}
use lib.ListN.{length, get_or, length-append, get_or-append}
use lib.Seq.{get_or-append-add}
use Rattle.image.specs.Kind.{concat}
use Rattle.image.specs.Stands.{Stands}

module _ {A B : Type 0} (f : A → List B) (m : ℕ) where
  -- at most m each
  pub concat-few : (d : A) (xs : List A) → ((k : ℕ) → k < length xs → length (f (get_or xs k d)) ≤ m) → length (concat f xs) ≤ m * length xs
  unfolding concat
  concat-few d [] h = omega arith
  concat-few d (x ∷ xs) h =
      omega (
        arith,
        length-append (f x) (concat f xs),
        h 0 (omega arith),
        concat-few d xs (λ k l. h (suc k) (omega (arith, l))),
        mul-suc m (length xs),
      )

  -- every element's list has the length m
  abbrev pub Even : List A → Type 0
  Even xs = (d : A) (k : ℕ) → k < length xs → length (f (get_or xs k d)) ≡ m

  even_rest : (x : A) (xs : List A) → Even (x ∷ xs) → Even xs
  even_rest x xs h d k b = h d (suc k) (omega (arith, b))

  pub length-concat : (xs : List A) → Even xs → length (concat f xs) ≡ m * length xs
  unfolding concat
  length-concat [] h = sym (mul-zero m)
  length-concat (x ∷ xs) h =
      omega (
        arith,
        length-append (f x) (concat f xs),
        h x 0 (omega arith),
        length-concat xs (even_rest x xs h),
        mul-suc m (length xs),
      )

  -- item j of the list of element i
  pub concat-at : (xs : List A) → Even xs → (x : A) (d : B) (i j : ℕ) → i < length xs → j < m
      → get_or (concat f xs) (m * i + j) d ≡ get_or (f (get_or xs i x)) j d
  unfolding concat
  concat-at [] h x d i j b c = absurd (not-suc-le-zero b)
  concat-at (y ∷ ys) h x d zero j b c =
      ap (λ (n : ℕ). get_or (f y ++ concat f ys) n d) (omega (arith, mul-zero m))
      ∙ get_or-append (f y) (concat f ys) d j (omega (arith, h x 0 (omega arith)))
  concat-at (y ∷ ys) h x d (suc i) j b c =
      ap (λ (n : ℕ). get_or (f y ++ concat f ys) n d) (omega (arith, mul-suc m i, h x 0 (omega arith)))
      ∙ get_or-append-add (f y) (concat f ys) (m * i + j) d
      ∙ concat-at ys (even_rest y ys h) x d i j (le_of_suc-le-suc b) c

  -- where they stand, the list of element i stands
  pub stands_nth : {h : ℕ → B} {a b : ℕ} (xs : List A) → Even xs → Stands h a (concat f xs) → (x : A) (i : ℕ) → i < length xs → a + m * i ≡ b
      → Stands h b (f (get_or xs i x))
  stands_nth {h} {a} {b} xs e y x i l p =
      record {
        at = λ d j c.
            ap h (omega arith)
            ∙ y.at d (m * i + j) (omega (arith, e x i l, length-concat xs e, mul-le-mul_left m l, mul-suc m i))
            ∙ concat-at xs e x d i j l (omega (arith, e x i l));
      }
