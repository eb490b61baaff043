-- What the code that writes a report promises: diagnostics that are added, a half byte, the head; and a report that is being written.
use Rattle.std.specs.Prelude.{◌≡◌, cond, List, [], ◌∷◌, ◌++◌, ℕ, ◌+◌, ◌/◌, ◌≤◌, ◌<◌, min, eqb, length, take}
use Rattle.records.specs.Bytes.{u8_at}
use Rattle.image.specs.Kind.{concat}
use Rattle.image.specs.Stands.{Stands}
use Rattle.report.specs.declared.diag.Diag.{Diag as Spoken}
use Rattle.report.specs.Fields.{row_at, diag_at}
use Rattle.report.specs.Report.{Diag, Wire, Report, most, half, row_bytes, diag_bytes, head_bytes}
use Rattle.report.specs.Writing.{Between, Laid, Said}

-- the code's diagnostic as the report's
abbrev pub to_diag : Spoken → Diag
to_diag d = record { kind = d.kind; span = d.span.0; ty = d.ty.0; local = d.local.0 }

-- some diagnostics are said behind others, of which there were so many
pub record Saying (at said : ℕ) (es : List Diag) (entry exit : List ℕ) (r : ℕ) : Type 0 where
  pub counted : r ≡ said + length es
  pub on : (ds : List Diag) (before : List ℕ) → length ds ≡ said → Said at ds before entry → Said at (ds ++ es) before exit

-- the half of local l in the row at p: its wire comes behind those of the locals before it
pub record Halved (p l h : ℕ) (before after : List ℕ) : Type 0 where
  pub kept : Between (p + l / 2) (p + l / 2 + 1) before after
  pub wire : (ws : List Wire) (w : Wire) → length ws ≡ l → half w ≡ h → Stands (u8_at before) p (row_bytes ws)
      → Stands (u8_at after) p (row_bytes (ws ++ (w ∷ [])))

-- the verdict, by the number of all diagnostics
abbrev pub verdict_of : ℕ → ℕ
verdict_of total = cond (eqb total 0) 0 1

-- a report's numbers, as the head has them
pub record Numbers (r : Report) (i l t e n : ℕ) : Type 0 where
  pub interfaces : length r.incoming ≡ i
  pub locals : r.locals ≡ l
  pub takes : r.takes ≡ t
  pub evaluations : r.evaluations ≡ e
  pub total : length r.diags ≡ n

pub record Headed (interfaces locals takes evaluations total : ℕ) (before after : List ℕ) : Type 0 where
  pub laid : (r : Report) → Numbers r interfaces locals takes evaluations total → Laid 0 (head_bytes r) before after

-- a report that is being written: of each interface the wires of the locals so far, and the diagnostics so far
pub record Underway (interfaces locals done : ℕ) (row : ℕ → List Wire) (ds : List Diag) (before after : List ℕ) : Type 0 where
  pub sized : length after ≡ length before
  pub few : done ≤ locals
  pub long : (i : ℕ) → i < interfaces → length (row i) ≡ done
  pub rows : (i : ℕ) → i < interfaces → Stands (u8_at after) (row_at interfaces locals i) (row_bytes (row i))
  pub said : Stands (u8_at after) (diag_at interfaces locals 0) (concat diag_bytes (take most ds))
  pub behind : (k : ℕ) → diag_at interfaces locals (min (length ds) most) ≤ k → u8_at after k ≡ u8_at before k
