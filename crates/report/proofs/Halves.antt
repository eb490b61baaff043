-- A wire more in a row: a byte more, or the other half of the last; and that for each row of a grid.
use mathlib.Core.Path.{◌≡◌, ◌∙◌, refl, sym, ap}
use mathlib.Core.Bool.{Bool, true, false}
use mathlib.Core.List.{List, [], ◌∷◌, ◌++◌}
use Prim.Native.Nat.{ℕ, zero, suc, ◌+◌, ◌*◌, ◌/◌, ◌%◌, ◌≤◌, ◌<◌}
use native.Mathlib.Nat.{mul-suc, mul-le-mul_left}
use native.Mathlib.Omega.{arith}
use borrow.Author.Tests.{ltb-true, ltb-false}
use lib.Dec.{ltb}
use lib.ListN.{length, get_or, set, take, length-append}
use lib.Seq.{get_or-set_same, get_or-set_other, get_or-take}
use Rattle.records.specs.Bytes.{u8_at}
use Rattle.image.specs.Stands.{Stands}
use Rattle.report.specs.Report.{Wire, half, row_bytes}
use Rattle.report.specs.Writing.{Column}
use Rattle.report.specs.Promises.{Halved}
use Rattle.report.proofs.Fields.{row-length}
use Rattle.report.proofs.Laying.{between_then, between_wider, between_set, stands-low, stands-high}
use Rattle.report.proofs.Written.{half-low}

-- ---- a row

pub row_more : (ws : List Wire) (w : Wire) → length (row_bytes (ws ++ (w ∷ []))) ≡ length ws / 2 + 1
row_more ws w = row-length (ws ++ (w ∷ [])) ∙ omega (arith, length-append ws (w ∷ []))

-- two locals on is a byte on
byte_on : (b : ℕ) (bytes : List ℕ) (n d : ℕ) → get_or (b ∷ bytes) (suc (suc n) / 2) d ≡ get_or bytes (n / 2) d
byte_on b bytes n d =
    let place : suc (suc n) / 2 ≡ suc (n / 2) = omega arith in
    ap (λ (k : ℕ). get_or (b ∷ bytes) k d) place

-- whole bytes stay
row_below : (ws : List Wire) (w : Wire) (k d : ℕ) → k < length ws / 2 → get_or (row_bytes (ws ++ (w ∷ []))) k d ≡ get_or (row_bytes ws) k d
unfolding row_bytes
row_below [] w k d h = absurd (omega arith)
row_below (x ∷ []) w k d h = absurd (omega arith)
row_below (x ∷ y ∷ ws) w zero d h = refl
row_below (x ∷ y ∷ ws) w (suc k) d h = row_below ws w k d (omega arith)

row_even : (ws : List Wire) (w : Wire) (d : ℕ) → length ws % 2 ≡ 0 → get_or (row_bytes (ws ++ (w ∷ []))) (length ws / 2) d ≡ half w
unfolding row_bytes
row_even [] w d h = refl
row_even (x ∷ []) w d h = absurd (omega arith)
row_even (x ∷ y ∷ ws) w d h = byte_on (half x + 16 * half y) (row_bytes (ws ++ (w ∷ []))) (length ws) d ∙ row_even ws w d (omega arith)

row_odd : (ws : List Wire) (w : Wire) (d : ℕ) → length ws % 2 ≡ 1
    → get_or (row_bytes (ws ++ (w ∷ []))) (length ws / 2) d ≡ get_or (row_bytes ws) (length ws / 2) d % 16 + 16 * half w
unfolding row_bytes
row_odd [] w d h = absurd (omega arith)
row_odd (x ∷ []) w d h = omega (arith, half-low x)
row_odd (x ∷ y ∷ ws) w d h =
    byte_on (half x + 16 * half y) (row_bytes (ws ++ (w ∷ []))) (length ws) d
    ∙ row_odd ws w d (omega arith)
    ∙ ap (λ (b : ℕ). b % 16 + 16 * half w) (sym (byte_on (half x + 16 * half y) (row_bytes ws) (length ws) d))

-- ---- a half byte

module _ (s : List ℕ) (p l h b : ℕ) (fits : p + l / 2 < length s) where
  -- the byte is what the row has there
  abbrev Byte : Type 0
  Byte = (ws : List Wire) (w : Wire) → length ws ≡ l → half w ≡ h → Stands (u8_at s) p (row_bytes ws) → (d : ℕ) → get_or (row_bytes (ws ++ (w ∷ []))) (l / 2) d ≡ b

  halved : Byte → Halved p l h s (set s (p + l / 2) b)
  halved byte = record { kept = between_set s (p + l / 2) b; wire = λ ws w n e x. record { at = λ d k c. go ws w n e x d k c (ltb k (l / 2)) refl } }
    where
      go : (ws : List Wire) (w : Wire) → length ws ≡ l → half w ≡ h → Stands (u8_at s) p (row_bytes ws) → (d k : ℕ) → k < length (row_bytes (ws ++ (w ∷ [])))
          → (q : Bool) → ltb k (l / 2) ≡ q
          → u8_at (set s (p + l / 2) b) (p + k) ≡ get_or (row_bytes (ws ++ (w ∷ []))) k d
      go ws w n e x d k c true q =
          let below : k < l / 2 = ltb-true k (l / 2) q in
          get_or-set_other s (p + l / 2) (p + k) b 0 (λ (e : p + k ≡ p + l / 2). omega arith)
          ∙ x.at d k (omega (arith, row-length ws))
          ∙ sym (row_below ws w k d (omega arith))
      go ws w n e x d k c false q =
          let last : l / 2 ≡ k = omega (arith, ltb-false k (l / 2) q, row_more ws w) in
          ap (λ (j : ℕ). u8_at (set s (p + l / 2) b) (p + j)) (sym last)
          ∙ get_or-set_same s (p + l / 2) b 0 fits
          ∙ sym (byte ws w n e x d)
          ∙ ap (λ (j : ℕ). get_or (row_bytes (ws ++ (w ∷ []))) j d) last

pub halved_even : (s : List ℕ) (p l h : ℕ) → p + l / 2 < length s → l % 2 ≡ 0 → Halved p l h s (set s (p + l / 2) h)
halved_even s p l h fits even =
    halved s p l h h fits
    (λ ws w n e x d.
    ap (λ (j : ℕ). get_or (row_bytes (ws ++ (w ∷ []))) (j / 2) d) (sym n)
    ∙ row_even ws w d (omega arith)
    ∙ e)

pub halved_odd : (s : List ℕ) (p l h : ℕ) → p + l / 2 < length s → (l % 2 ≡ 0 → ⊥) → Halved p l h s (set s (p + l / 2) (u8_at s (p + l / 2) % 16 + 16 * h))
halved_odd s p l h fits odd =
    halved s p l h (u8_at s (p + l / 2) % 16 + 16 * h) fits
    (λ ws w n e x d.
    let o : l % 2 ≡ 1 = omega (arith, odd) in
    ap (λ (j : ℕ). get_or (row_bytes (ws ++ (w ∷ []))) (j / 2) d) (sym n)
    ∙ row_odd ws w d (omega arith)
    ∙ ap (λ (j : ℕ). get_or (row_bytes ws) (j / 2) d % 16 + 16 * half w) n
    ∙ ap (λ (b : ℕ). b % 16 + 16 * half w) (sym (x.at d (l / 2) (omega (arith, row-length ws))))
    ∙ ap (λ (m : ℕ). u8_at s (p + l / 2) % 16 + 16 * m) e)

-- ---- a column

-- a row ends before the next begins
pub row_fits : (size i rows : ℕ) → i < rows → size * i + size ≤ size * rows
row_fits size i rows h = omega (arith, mul-suc size i, mul-le-mul_left size h)

pub column_on : {at size i l : ℕ} {halves a b c : List ℕ} → Column at size i l halves a b → Halved (at + size * i) l (get_or halves i 0) b c → l < 2 * size
    → Column at size (i + 1) l halves a c
column_on {at} {size} {i} {l} {halves} {a} {b} {c} x y h =
    record {
      kept =
          between_then
          (between_wider x.kept (omega arith) (omega (arith, row_fits size i (i + 1) (omega arith))))
          (between_wider y.kept (omega arith) (omega (arith, row_fits size i (i + 1) (omega arith))));
      row = λ j k ws w n e z. go j k ws w n e z (ltb j i) refl;
    }
  where
    go : (j : ℕ) → j < i + 1 → (ws : List Wire) (w : Wire) → length ws ≡ l → half w ≡ get_or halves j 0
        → Stands (u8_at a) (at + size * j) (row_bytes ws) → (q : Bool) → ltb j i ≡ q
        → Stands (u8_at c) (at + size * j) (row_bytes (ws ++ (w ∷ [])))
    go j k ws w n e z true q =
        stands-low y.kept (omega (arith, row_fits size j i (ltb-true j i q), row_more ws w)) (x.row j (ltb-true j i q) ws w n e z)
    go j k ws w n e z false q =
        let same : j ≡ i = omega (arith, ltb-false j i q, k) in
        rw same (y.wire ws w n (e ∙ ap (λ (m : ℕ). get_or halves m 0) same) (stands-high x.kept (omega arith) (rw same at z)))

-- of more halves than rows the first ones are written
pub column_taken : {at size rows l : ℕ} (halves : List ℕ) {a b : List ℕ} → Column at size rows l (take rows halves) a b → Column at size rows l halves a b
column_taken {rows = rows} halves x =
    record { kept = x.kept; row = λ i h ws w n e. x.row i h ws w n (e ∙ sym (get_or-take rows halves i 0 h)) }
