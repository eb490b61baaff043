use mathlib.Core.Path.{refl}
use native.Mathlib.Omega.{arith}
use Rattle.report.proofs.Laying.{laid_u16, laid_u32, laid_then}
use Rattle.report.proofs.diag.Diag.put.Goals as goal

pub returns : goal.returns
returns c =
    laid_then _ _
    (laid_then _ _
    (laid_then _ _ c.put.ensures refl
    (laid_u32 c.to_le_bytes.ensures (omega arith) c.put-2.ensures)) refl
    (laid_u16 c.to_le_bytes-2.ensures (omega arith) c.put-3.ensures)) refl
    (laid_u16 c.to_le_bytes-3.ensures (omega arith) c.put-4.ensures)
