-- What the bytes of a report say of an image, field by field: what a reviewer can be shown.
use Rattle.std.specs.Prelude.{◌≡◌, true, false, List, ℕ, ◌<◌, min, length, get_or}
use Rattle.effect.specs.declared.Effect.{Effect}
use Rattle.records.specs.Bytes.{u8_at, u16_at, u32_at}
use Rattle.image.specs.Vir.{Vir}
use Rattle.report.specs.Fields.{incoming_at, row_at, diag_at, half_at, diag_of}
use Rattle.report.specs.Report.{Diag, most, verdict, half}
use Rattle.solve.specs.Least.{total}
use Rattle.analyzer.specs.Analyze.{processed}
use Rattle.analyzer.specs.Demand.{LeastFor, wire_by}
use Rattle.analyzer.specs.Reported.{answers_in, takes_in, evaluations_in, locals as locals_of, all_diags}
use Rattle.analyzer.specs.Sweep.{incoming_of}

pub record Says (span : ℕ) (v : Vir) (s : List ℕ) : Type 0 where
  pub interfaces : u16_at s 5 ≡ length v.interfaces
  pub locals : u16_at s 7 ≡ length v.locals
  pub verdict : u8_at s 9 ≡ verdict (all_diags span v)
  pub takes : u32_at s 10 ≡ total (λ l. takes_in (answers_in v l)) (locals_of v)
  pub evaluations : u32_at s 14 ≡ total (λ l. evaluations_in (answers_in v l)) (locals_of v)
  pub total : u32_at s 18 ≡ length (all_diags span v)
  pub kept : u16_at s 22 ≡ min (length (all_diags span v)) most
  pub incoming : (i : ℕ) → i < length v.interfaces → u32_at s (incoming_at i) ≡ get_or (incoming_of v) i 0
  -- a processed local's half byte is the one that any least effects give
  pub wires : (i l : ℕ) → i < length v.interfaces → l < length v.locals → processed v (incoming_of v) l ≡ true
      → (f : ℕ → Effect) → LeastFor v l f
      → half_at s (row_at (length v.interfaces) (length v.locals) i) l ≡ half (wire_by v l f i)
  -- .. another's is none
  pub unprocessed : (i l : ℕ) → i < length v.interfaces → l < length v.locals → processed v (incoming_of v) l ≡ false
      → half_at s (row_at (length v.interfaces) (length v.locals) i) l ≡ 0
  pub diags : (k : ℕ) (d : Diag) → k < min (length (all_diags span v)) most
      → diag_of s (diag_at (length v.interfaces) (length v.locals) k) ≡ get_or (all_diags span v) k d
