use mathlib.Core.Path.{refl}
use native.Mathlib.Omega.{arith}
use Rattle.report.proofs.Laying.{laid_as, laid_u16, laid_u32, laid_then}
use Rattle.report.proofs.Heads.{headed}
use Rattle.report.proofs.head.Head.put.Goals as goal

pub returns : goal.returns
returns c =
    headed c.verdict.ensures c.kept.ensures
    (laid_then _ _
    (laid_then _ _
    (laid_then _ _
    (laid_then _ _
    (laid_then _ _
    (laid_then _ _
    (laid_then _ _
    (laid_then _ _ c.put.ensures refl
    (laid_as c.to_le_bytes.ensures c.put-2.ensures)) refl
    (laid_u16 c.to_le_bytes-2.ensures (omega arith) c.put-3.ensures)) refl
    (laid_u16 c.to_le_bytes-3.ensures (omega arith) c.put-4.ensures)) refl
    c.put-5.ensures) refl
    (laid_u32 c.to_le_bytes-4.ensures (omega arith) c.put-6.ensures)) refl
    (laid_u32 c.to_le_bytes-5.ensures (omega arith) c.put-7.ensures)) refl
    (laid_u32 c.to_le_bytes-6.ensures (omega arith) c.put-8.ensures)) refl
    (laid_u16 c.to_le_bytes-7.ensures (omega arith) c.put-9.ensures))
