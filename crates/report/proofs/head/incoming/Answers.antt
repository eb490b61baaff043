use native.Mathlib.Omega.{arith}
use Rattle.report.proofs.Heads.{counts_start, counts-on}
use Rattle.report.proofs.Laying.{laid_u32}
use Rattle.report.proofs.head.incoming.Goals as goal

pub loop-i-init : goal.loop-i-init
loop-i-init c = counts_start

pub loop-i-preserved : goal.loop-i-preserved
loop-i-preserved c =
    counts-on _ _ c.loop-i.invariant c.loop-i-test.true (laid_u32 c.to_le_bytes.ensures (omega arith) c.put.ensures)
