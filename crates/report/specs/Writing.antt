-- What the code that writes a report leaves in an output, part by part: bytes that stand at their place, and all others as they were.
use Rattle.std.specs.Prelude.{◌≡◌, List, [], ◌∷◌, ◌++◌, ℕ, ◌+◌, ◌*◌, ◌≤◌, ◌<◌, length, get_or, take}
use Rattle.records.specs.Bytes.{u8_at}
use Rattle.image.specs.Kind.{concat}
use Rattle.image.specs.Stands.{Stands}
use Rattle.report.specs.Report.{Diag, Wire, most, half, row_bytes, diag_bytes}

-- nothing is changed but from a place on, and before another
pub record Between (from to : ℕ) (before after : List ℕ) : Type 0 where
  pub sized : length after ≡ length before
  pub low : (k : ℕ) → k < from → u8_at after k ≡ u8_at before k
  pub high : (k : ℕ) → to ≤ k → u8_at after k ≡ u8_at before k

-- bytes written at a place
pub record Laid (p : ℕ) (bytes before after : List ℕ) : Type 0 where
  pub kept : Between p (p + length bytes) before after
  pub stands : Stands (u8_at after) p bytes

-- the first 1,024 of some diagnostics, from a place on
abbrev pub Said : ℕ → List Diag → List ℕ → List ℕ → Type 0
Said at ds = Laid at (concat diag_bytes (take most ds))

-- local l in every row of a grid of so many rows of so many bytes: its wire comes behind those of the locals before it
pub record Column (p size rows l : ℕ) (halves before after : List ℕ) : Type 0 where
  pub kept : Between p (p + size * rows) before after
  pub row : (i : ℕ) → i < rows → (ws : List Wire) (w : Wire) → length ws ≡ l → half w ≡ get_or halves i 0
      → Stands (u8_at before) (p + size * i) (row_bytes ws) → Stands (u8_at after) (p + size * i) (row_bytes (ws ++ (w ∷ [])))
