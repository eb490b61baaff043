-- A list that stands among the values of a function: its parts stand there too, and its numbers are read back.
use mathlib.Core.Path.{◌≡◌, ◌∙◌, refl, sym, ap}
use mathlib.Core.List.{List, [], ◌∷◌, ◌++◌}
use Prim.Native.Nat.{ℕ, zero, suc, ◌+◌, ◌/◌, ◌%◌, ◌<◌}
use native.Mathlib.Nat.{add-zero, zero-add, le_of_suc-le-suc, not-suc-le-zero}
use native.Mathlib.Omega.{arith}
use lib.ListN.{length, get_or, take, drop, length-append, length-take, length-drop, get_or-append}
use lib.Seq.{get_or-append-add, get_or-drop, get_or-take}
use Rattle.std.proofs.lemmas.List.{get_or_default}
use Rattle.records.specs.Bytes.{u8_at, u16_at, u32_at}
use Rattle.image.specs.Encode.{u16_bytes, u32_bytes}
use Rattle.image.specs.Kind.{concat}
use Rattle.image.specs.Stands.{Stands}
use Rattle.image.specs.View.{collect}

module _ {A : Type 0} {h : ℕ → A} where
  pub stands-none : {a : ℕ} → Stands h a []
  stands-none = record { at = λ d k b. absurd (not-suc-le-zero b) }

  pub stands-next : {a : ℕ} {x : A} {l : List A} → h a ≡ x → Stands h (suc a) l → Stands h a (x ∷ l)
  stands-next {a} {x} {l} e y = record { at = go }
    where
      go : (d : A) (k : ℕ) → k < length (x ∷ l) → h (a + k) ≡ get_or (x ∷ l) k d
      go d zero b = ap h (add-zero a) ∙ e
      go d (suc k) b = ap h (omega arith) ∙ y.at d k (le_of_suc-le-suc b)

  pub stands_move : {a b : ℕ} {l : List A} → a ≡ b → Stands h a l → Stands h b l
  stands_move p x = record { at = λ d k b. ap (λ (n : ℕ). h (n + k)) (sym p) ∙ x.at d k b }

  pub stands_left : (l m : List A) {a : ℕ} → Stands h a (l ++ m) → Stands h a l
  stands_left l m x =
      record { at = λ d k b. x.at d k (omega (arith, length-append l m)) ∙ get_or-append l m d k b }

  pub stands_right : (l m : List A) {a b : ℕ} → Stands h a (l ++ m) → a + length l ≡ b → Stands h b m
  stands_right l m {a} {b} x p =
      record {
        at = λ d k t.
            ap h (omega arith)
            ∙ x.at d (length l + k) (omega (arith, length-append l m))
            ∙ get_or-append-add l m k d;
      }

  -- what is left without the first k
  pub stands_past : {a b : ℕ} {l : List A} (k : ℕ) → Stands h a l → a + k ≡ b → Stands h b (drop k l)
  stands_past {a} {b} {l} k x p =
      record { at = λ d j t. ap h (omega arith) ∙ x.at d (k + j) (omega (arith, length-drop k l)) ∙ sym (get_or-drop k l j d) }

  -- a part of it, which begins at the k-th
  pub stands_part : {a b : ℕ} {l m : List A} (k : ℕ) → Stands h a l → take (length m) (drop k l) ≡ m → b ≡ a + k → Stands h b m
  stands_part {a} {b} {l} {m} k x e p =
      record {
        at = λ d j t.
            ap h (omega arith)
            ∙ x.at d (k + j) (omega (arith, length-drop k l, length-take (length m) (drop k l), ap length e))
            ∙ sym (get_or-drop k l j d)
            ∙ sym (get_or-take (length m) (drop k l) j d t)
            ∙ ap (λ (n : List A). get_or n j d) e;
      }

  pub stands-collect : {a : ℕ} (l : List A) → Stands h a l → collect h a (length l) ≡ l
  unfolding collect
  stands-collect [] x = refl
  stands-collect {a} (y ∷ l) x =
      let rest : collect h (suc a) (length l) ≡ l = stands-collect l (stands_past {l = y ∷ l} 1 x (omega arith)) in
      let first : h a ≡ y = ap h (sym (add-zero a)) ∙ x.at y 0 (omega arith) in
      λ i. first i ∷ rest i

pub stands_whole : (s : List ℕ) → Stands (u8_at s) 0 s
stands_whole s = record { at = λ d k b. ap (u8_at s) (zero-add k) ∙ get_or_default s k 0 d b }

-- numbers whose bytes begin at the k-th
module _ (s : List ℕ) {a : ℕ} {l : List ℕ} (k : ℕ) (x : Stands (u8_at s) a l) where
  pub u8_in : {q n : ℕ} → take 1 (drop k l) ≡ n ∷ [] → q ≡ a + k → u8_at s q ≡ n
  u8_in {q} {n} e p = ap (u8_at s) (sym (add-zero q)) ∙ (stands_part {m = n ∷ []} k x e p).at 0 0 (omega arith)

  pub u16_in : {q n : ℕ} → take 2 (drop k l) ≡ u16_bytes n → q ≡ a + k → u16_at s q ≡ n
  unfolding u16_at
  u16_in {q} {n} e p =
      let y : Stands (u8_at s) q (u16_bytes n) = stands_part k x e p in
      let low : u8_at s q ≡ n % 256 = ap (u8_at s) (sym (add-zero q)) ∙ y.at 0 0 (omega arith) in
      let high : u8_at s (q + 1) ≡ n / 256 = y.at 0 1 (omega arith) in
      omega arith

module _ (s : List ℕ) {a : ℕ} {l : List ℕ} (k : ℕ) (x : Stands (u8_at s) a l) where
  pub u32_in : {q n : ℕ} → take 4 (drop k l) ≡ u32_bytes n → q ≡ a + k → u32_at s q ≡ n
  unfolding u32_at
  u32_in {q} {n} e p =
      let y : Stands (u8_at s) q (u32_bytes n) = stands_part k x e p in
      let low : u16_at s q ≡ n % 65536 = u16_in s 0 y refl (omega arith) in
      let high : u16_at s (q + 2) ≡ n / 65536 = u16_in s 2 y refl refl in
      omega arith

-- records written one behind the other, the k-th at place k, are read back one after the other
pub stands-concat : {A : Type 0} (s : List ℕ) (g : A → List ℕ) (f : ℕ → A) (place : ℕ → ℕ)
    → ((k : ℕ) (x : A) → place k + length (g x) ≡ place (suc k)) → ((k : ℕ) (x : A) → Stands (u8_at s) (place k) (g x) → f k ≡ x)
    → (k : ℕ) (l : List A) → Stands (u8_at s) (place k) (concat g l) → Stands f k l
unfolding concat
stands-concat s g f place on one k [] y = stands-none
stands-concat s g f place on one k (x ∷ l) y =
    stands-next (one k x (stands_left (g x) (concat g l) y)) (stands-concat s g f place on one (suc k) l (stands_right (g x) (concat g l) y (on k x)))
