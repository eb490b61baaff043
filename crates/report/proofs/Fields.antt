-- Where each field of a report stands in its bytes.
use mathlib.Core.Path.{◌≡◌, ◌∙◌, refl, ap, ap₂}
use mathlib.Core.Bool.{Bool, true, false}
use mathlib.Core.List.{List, [], ◌∷◌, ◌++◌}
use Prim.Native.Nat.{ℕ, zero, suc, ◌+◌, ◌*◌, ◌/◌, ◌%◌, ◌<◌, min}
use native.Mathlib.Nat.{min_comm}
use native.Mathlib.Omega.{arith}
use lib.Dec.{eqb}
use lib.ListN.{length, get_or, take, length-append, length-take}
use lib.Seq.{get_or-take}
use Rattle.std.proofs.lemmas.List.{get_or_default}
use Rattle.records.specs.Bytes.{u8_at, u16_at, u32_at}
use Rattle.image.specs.Encode.{u32_bytes}
use Rattle.image.specs.Kind.{concat}
use Rattle.image.proofs.Concat.{Even, length-concat, stands_nth}
use Rattle.image.specs.Stands.{Stands}
use Rattle.image.proofs.Standing.{stands_left, stands_right, stands_whole, u8_in, u16_in, u32_in}
use Rattle.report.specs.Fields.{Shaped, Fields, incoming_at, row_size, row_at, diag_at, half_at, diag_of}
use Rattle.report.specs.Report.{Wire, Diag, Report, most, no_wire, half, row_bytes, diag_bytes, head_bytes, report_bytes}
use Rattle.report.proofs.Written.{half-low}

-- ---- a row

-- two wires a byte
pub row-length : (ws : List Wire) → length (row_bytes ws) ≡ row_size (length ws)
unfolding row_bytes
row-length [] = refl
row-length (w ∷ []) = refl
row-length (w ∷ x ∷ ws) = omega (arith, row-length ws)

-- the low half of a byte for an even local, the high one for an odd
abbrev pub half_of : ℕ → ℕ → ℕ
half_of odd b = elim (eqb odd 0) [ true ↦ b % 16 | false ↦ b / 16 ]

half-none : (odd : ℕ) → half_of odd 0 ≡ 0
half-none odd = go (eqb odd 0)
  where
    go : (b : Bool) → ◌≡◌ {A = ℕ} (elim b [ true ↦ 0 % 16 | false ↦ 0 / 16 ]) 0
    go true = refl
    go false = refl

-- two locals on is a byte on
half-on : (b : ℕ) (bytes : List ℕ) (l : ℕ)
    → half_of (suc (suc l) % 2) (get_or (b ∷ bytes) (suc (suc l) / 2) 0) ≡ half_of (l % 2) (get_or bytes (l / 2) 0)
half-on b bytes l =
    let odd : suc (suc l) % 2 ≡ l % 2 = omega arith in
    let place : suc (suc l) / 2 ≡ suc (l / 2) = omega arith in
    ap₂ (λ (o p : ℕ). half_of o (get_or (b ∷ bytes) p 0)) odd place

-- a local's half is its wire's; behind the last wire it is none's
pub row-half : (ws : List Wire) (l : ℕ) → half_of (l % 2) (get_or (row_bytes ws) (l / 2) 0) ≡ half (get_or ws l no_wire)
unfolding row_bytes
row-half [] l = half-none (l % 2)
row-half (w ∷ []) zero = omega (arith, half-low w)
row-half (w ∷ []) (suc zero) = omega (arith, half-low w)
row-half (w ∷ []) (suc (suc l)) = half-on (half w) [] l ∙ half-none (l % 2)
row-half (w ∷ x ∷ ws) zero = omega (arith, half-low w, half-low x)
row-half (w ∷ x ∷ ws) (suc zero) = omega (arith, half-low w, half-low x)
row-half (w ∷ x ∷ ws) (suc (suc l)) = half-on (half w + 16 * half x) (row_bytes ws) l ∙ row-half ws l

-- a diagnostic is read back where it stands
diag_read : (s : List ℕ) (p : ℕ) (d : Diag) → Stands (u8_at s) p (diag_bytes d) → diag_of s p ≡ d
diag_read s p d x =
    let kind : u8_at s p ≡ d.kind = u8_in s 0 x refl (omega arith) in
    let span : u32_at s (p + 1) ≡ d.span = u32_in s 1 x refl refl in
    let ty : u16_at s (p + 5) ≡ d.ty = u16_in s 5 x refl refl in
    let local : u16_at s (p + 7) ≡ d.local = u16_in s 7 x refl refl in
    λ i. record { kind = kind i; span = span i; ty = ty i; local = local i }

-- ---- the parts, and where each stands

module _ (r : Report) where
  abbrev s : List ℕ
  s = report_bytes r

  abbrev interfaces : ℕ
  interfaces = length r.incoming

  abbrev incoming_part : List ℕ
  incoming_part = concat u32_bytes r.incoming

  abbrev rows_part : List ℕ
  rows_part = concat row_bytes r.wires

  abbrev kept : List Diag
  kept = take most r.diags

  abbrev diags_part : List ℕ
  diags_part = concat diag_bytes kept

  kept-length : length kept ≡ min (length r.diags) most
  kept-length = length-take most r.diags ∙ min_comm most (length r.diags)

  pub to_rows : length (head_bytes r ++ incoming_part) ≡ incoming_at interfaces
  to_rows = omega (arith, length-append (head_bytes r) incoming_part, length-concat u32_bytes 4 r.incoming (λ d k h. refl))

  whole : Stands (u8_at s) 0 (head_bytes r ++ incoming_part ++ rows_part ++ diags_part)
  unfolding report_bytes
  whole = stands_whole s

  before_diags : Stands (u8_at s) 0 (head_bytes r ++ incoming_part ++ rows_part)
  before_diags = stands_left (head_bytes r ++ incoming_part ++ rows_part) diags_part whole

  before_rows : Stands (u8_at s) 0 (head_bytes r ++ incoming_part)
  before_rows = stands_left (head_bytes r ++ incoming_part) rows_part before_diags

  head : Stands (u8_at s) 0 (head_bytes r)
  head = stands_left (head_bytes r) incoming_part before_rows

  incoming-stand : Stands (u8_at s) (incoming_at 0) incoming_part
  incoming-stand = stands_right (head_bytes r) incoming_part before_rows refl

  rows-stand : Stands (u8_at s) (incoming_at interfaces) rows_part
  rows-stand = stands_right (head_bytes r ++ incoming_part) rows_part before_diags (omega (arith, to_rows))

  mark : take 3 s ≡ 86 ∷ 65 ∷ 82 ∷ []
  unfolding report_bytes
  mark = refl

  incoming : (i : ℕ) → i < interfaces → u32_at s (incoming_at i) ≡ get_or r.incoming i 0
  incoming i h =
      u32_in s 0 (stands_nth u32_bytes 4 {b = incoming_at i} r.incoming (λ d k h. refl) incoming-stand 0 i h refl) refl (omega arith)

  module _ (shaped : Shaped r) where
    pub rows_even : Even row_bytes (row_size r.locals) r.wires
    rows_even d k h =
        row-length (get_or r.wires k d)
        ∙ ap (λ (ws : List Wire). row_size (length ws)) (get_or_default r.wires k d [] h)
        ∙ ap row_size (shaped.wires k h)

    pub to_diags : length (head_bytes r ++ incoming_part ++ rows_part) ≡ row_at interfaces r.locals interfaces
    to_diags =
        length-append (head_bytes r ++ incoming_part) rows_part
        ∙ ap₂ (λ (a b : ℕ). a + b) to_rows
        (length-concat row_bytes (row_size r.locals) r.wires rows_even ∙ ap (λ (n : ℕ). row_size r.locals * n) shaped.rows)

    pub to_end : length s ≡ diag_at interfaces r.locals (min (length r.diags) most)
    unfolding report_bytes
    to_end =
        length-append (head_bytes r ++ incoming_part ++ rows_part) diags_part
        ∙ ap₂ (λ (a b : ℕ). a + b) to_diags (length-concat diag_bytes 9 kept (λ d k h. refl) ∙ ap (λ (n : ℕ). 9 * n) kept-length)

    diags-stand : Stands (u8_at s) (row_at interfaces r.locals interfaces) diags_part
    diags-stand = stands_right (head_bytes r ++ incoming_part ++ rows_part) diags_part whole (omega (arith, to_diags))

    wire : (i l : ℕ) → i < interfaces → l < r.locals
        → half_at s (row_at interfaces r.locals i) l ≡ half (get_or (get_or r.wires i []) l no_wire)
    wire i l h k =
        ap (half_of (l % 2)) (row.at 0 (l / 2) (omega (arith, rows_even [] i there))) ∙ row-half (get_or r.wires i []) l
      where
        there : i < length r.wires
        there = omega (arith, shaped.rows)

        row : Stands (u8_at s) (row_at interfaces r.locals i) (row_bytes (get_or r.wires i []))
        row = stands_nth row_bytes (row_size r.locals) r.wires rows_even rows-stand [] i there refl

    diag : (k : ℕ) (d : Diag) → k < min (length r.diags) most → diag_of s (diag_at interfaces r.locals k) ≡ get_or r.diags k d
    diag k d h =
        diag_read s (diag_at interfaces r.locals k) (get_or kept k d)
        (stands_nth diag_bytes 9 kept (λ d k h. refl) diags-stand d k (omega (arith, kept-length)) refl)
        ∙ get_or-take most r.diags k d (omega arith)

    pub fields : Fields r (report_bytes r)
    fields =
        record {
          mark = mark;
          version = u16_in s 3 head refl refl;
          interfaces = u16_in s 5 head refl refl;
          locals = u16_in s 7 head refl refl;
          verdict = u8_in s 9 head refl refl;
          takes = u32_in s 10 head refl refl;
          evaluations = u32_in s 14 head refl refl;
          total = u32_in s 18 head refl refl;
          kept = u16_in s 22 head refl refl;
          incoming = incoming;
          wires = wire;
          diags = diag;
          long = to_end;
        }
