-- Bytes that are written at a place: one, some behind others, and what is written elsewhere leaves them.
use mathlib.Core.Path.{◌≡◌, ◌∙◌, refl, sym, ap, subst}
use mathlib.Core.Bool.{Bool, true, false}
use mathlib.Core.List.{List, [], ◌∷◌, ◌++◌, append-nil, append_assoc}
use Prim.Native.Nat.{ℕ, ◌+◌, ◌-◌, ◌/◌, ◌%◌, ◌≤◌, ◌<◌}
use native.Mathlib.Omega.{arith}
use borrow.Author.Tests.{ltb-true, ltb-false}
use lib.Dec.{ltb}
use lib.ListN.{length, get_or, set, length-append, length-set, get_or-append}
use lib.Seq.{get_or-set_other, get_or-append-add}
use Rattle.std.specs.Int.{to_le_bytes, w16, w32}
use Rattle.records.specs.Bytes.{u8_at}
use Rattle.image.specs.Encode.{u16_bytes, u32_bytes}
use Rattle.image.specs.Kind.{concat}
use Rattle.image.specs.Stands.{Stands}
use Rattle.image.proofs.Standing.{stands-none}
use Rattle.report.specs.Writing.{Between, Laid}

-- ---- lists

pub concat_last : {A B : Type 0} (f : A → List B) (xs : List A) (x : A) → concat f (xs ++ (x ∷ [])) ≡ concat f xs ++ f x
unfolding concat
concat_last f [] x = append-nil (f x)
concat_last f (y ∷ ys) x = ap (λ l. f y ++ l) (concat_last f ys x) ∙ sym (append_assoc (f y) (concat f ys) (f x))

-- ---- one list behind another

pub stands_both : {A : Type 0} {h : ℕ → A} {a b : ℕ} (l m : List A) → Stands h a l → a + length l ≡ b → Stands h b m → Stands h a (l ++ m)
stands_both {A} {h} {a} {b} l m x e y = record { at = λ d k c. go d k c (ltb k (length l)) refl }
  where
    go : (d : A) (k : ℕ) → k < length (l ++ m) → (q : Bool) → ltb k (length l) ≡ q → h (a + k) ≡ get_or (l ++ m) k d
    go d k c true q = x.at d k (ltb-true k (length l) q) ∙ sym (get_or-append l m d k (ltb-true k (length l) q))
    go d k c false q =
        let past : length l ≤ k = ltb-false k (length l) q in
        let back : length l + (k - length l) ≡ k = omega arith in
        ap h (omega arith)
        ∙ y.at d (k - length l) (omega (arith, length-append l m, c))
        ∙ sym (get_or-append-add l m (k - length l) d)
        ∙ ap (λ (n : ℕ). get_or (l ++ m) n d) back

-- ---- nothing is changed elsewhere

pub between_same : {from to : ℕ} {s : List ℕ} → Between from to s s
between_same = record { sized = refl; low = λ k h. refl; high = λ k h. refl }

pub between_then : {from to : ℕ} {a b c : List ℕ} → Between from to a b → Between from to b c → Between from to a c
between_then x y =
    record { sized = y.sized ∙ x.sized; low = λ k h. y.low k h ∙ x.low k h; high = λ k h. y.high k h ∙ x.high k h }

pub between_wider : {p q from to : ℕ} {a b : List ℕ} → Between p q a b → from ≤ p → q ≤ to → Between from to a b
between_wider x f t = record { sized = x.sized; low = λ k h. x.low k (omega arith); high = λ k h. x.high k (omega arith) }

pub between_set : (s : List ℕ) (p b : ℕ) → Between p (p + 1) s (set s p b)
between_set s p b =
    record {
      sized = length-set s p b;
      low = λ k h. get_or-set_other s p k b 0 (λ (e : k ≡ p). omega arith);
      high = λ k h. get_or-set_other s p k b 0 (λ (e : k ≡ p). omega arith);
    }

-- what stands on either side still stands
pub stands-low : {from to p : ℕ} {a b l : List ℕ} → Between from to a b → p + length l ≤ from → Stands (u8_at a) p l → Stands (u8_at b) p l
stands-low {from} {to} {p} x h y = record { at = λ d k c. x.low (p + k) (omega arith) ∙ y.at d k c }

pub stands-high : {from to p : ℕ} {a b l : List ℕ} → Between from to a b → to ≤ p → Stands (u8_at a) p l → Stands (u8_at b) p l
stands-high {from} {to} {p} x h y = record { at = λ d k c. x.high (p + k) (omega arith) ∙ y.at d k c }

-- ---- bytes

pub laid_none : {p : ℕ} {s : List ℕ} → Laid p [] s s
laid_none = record { kept = between_same; stands = stands-none }

-- the same bytes in other words, and those that std's `to_le_bytes` gives
pub laid_as : {p : ℕ} {xs ys a b : List ℕ} → xs ≡ ys → Laid p xs a b → Laid p ys a b
laid_as {p} {a = a} {b = b} e x = subst (λ (l : List ℕ). Laid p l a b) e x

pub laid_u16 : {p n : ℕ} {bytes a b : List ℕ} → bytes ≡ to_le_bytes w16 n → n < 65536 → Laid p bytes a b → Laid p (u16_bytes n) a b
laid_u16 {n = n} e h x =
    let high : n / 256 % 256 ≡ n / 256 = omega arith in
    laid_as (e ∙ (λ i. n % 256 ∷ high i ∷ [])) x

pub laid_u32 : {p n : ℕ} {bytes a b : List ℕ} → bytes ≡ to_le_bytes w32 n → n < 4294967296 → Laid p bytes a b → Laid p (u32_bytes n) a b
laid_u32 {n = n} e h x =
    let first : n % 256 ≡ n % 65536 % 256 = omega arith in
    let second : n / 256 % 256 ≡ n % 65536 / 256 = omega arith in
    let fourth : n / 16777216 % 256 ≡ n / 65536 / 256 = omega arith in
    laid_as (e ∙ (λ i. first i ∷ second i ∷ n / 65536 % 256 ∷ fourth i ∷ [])) x

pub laid_then : {p q : ℕ} (xs ys : List ℕ) {a b c : List ℕ} → Laid p xs a b → p + length xs ≡ q → Laid q ys b c → Laid p (xs ++ ys) a c
laid_then {p} {q} xs ys x e y =
    record {
      kept =
          between_then
          (between_wider x.kept (omega arith) (omega (arith, length-append xs ys)))
          (between_wider y.kept (omega arith) (omega (arith, length-append xs ys)));
      stands = stands_both xs ys (stands-low y.kept (omega arith) x.stands) e y.stands;
    }
