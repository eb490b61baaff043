-- Where each field of a report stands in its bytes.
use Rattle.std.specs.Prelude.{◌≡◌, true, false, List, [], ◌∷◌, ℕ, ◌+◌, ◌*◌, ◌/◌, ◌%◌, ◌<◌, min, eqb, length, get_or, take}
use Rattle.records.specs.Bytes.{u8_at, u16_at, u32_at}
use Rattle.report.specs.Report.{Diag, Report, most, no_wire, verdict, half}

-- one row of wires for each interface, and in it one wire for each local
pub record Shaped (r : Report) : Type 0 where
  pub rows : length r.wires ≡ length r.incoming
  pub wires : (i : ℕ) → i < length r.wires → length (get_or r.wires i []) ≡ r.locals

-- behind the head, by the number of interfaces and of locals: the incoming of interface i, its row, diagnostic k
abbrev pub incoming_at : ℕ → ℕ
incoming_at i = 24 + 4 * i

-- two locals in a byte
abbrev pub row_size : ℕ → ℕ
row_size locals = (locals + 1) / 2

abbrev pub row_at : ℕ → ℕ → ℕ → ℕ
row_at interfaces locals i = 24 + 4 * interfaces + row_size locals * i

abbrev pub diag_at : ℕ → ℕ → ℕ → ℕ
diag_at interfaces locals k = row_at interfaces locals interfaces + 9 * k

-- the half byte of local l in the row at p, even local low
abbrev pub half_at : List ℕ → ℕ → ℕ → ℕ
half_at s p l = elim (eqb (l % 2) 0) [ true ↦ u8_at s (p + l / 2) % 16 | false ↦ u8_at s (p + l / 2) / 16 ]

-- the diagnostic at p
abbrev pub diag_of : List ℕ → ℕ → Diag
diag_of s p = record { kind = u8_at s p; span = u32_at s (p + 1); ty = u16_at s (p + 5); local = u16_at s (p + 7) }

pub record Fields (r : Report) (s : List ℕ) : Type 0 where
  pub mark : take 3 s ≡ 86 ∷ 65 ∷ 82 ∷ []
  pub version : u16_at s 3 ≡ 1
  pub interfaces : u16_at s 5 ≡ length r.incoming
  pub locals : u16_at s 7 ≡ r.locals
  pub verdict : u8_at s 9 ≡ verdict r.diags
  pub takes : u32_at s 10 ≡ r.takes
  pub evaluations : u32_at s 14 ≡ r.evaluations
  pub total : u32_at s 18 ≡ length r.diags
  pub kept : u16_at s 22 ≡ min (length r.diags) most
  pub incoming : (i : ℕ) → i < length r.incoming → u32_at s (incoming_at i) ≡ get_or r.incoming i 0
  pub wires : (i l : ℕ) → i < length r.incoming → l < r.locals
      → half_at s (row_at (length r.incoming) r.locals i) l ≡ half (get_or (get_or r.wires i []) l no_wire)
  pub diags : (k : ℕ) (d : Diag) → k < min (length r.diags) most
      → diag_of s (diag_at (length r.incoming) r.locals k) ≡ get_or r.diags k d
  pub long : length s ≡ diag_at (length r.incoming) r.locals (min (length r.diags) most)
