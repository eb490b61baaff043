use Rattle.report.proofs.Halves.{column_on}
use Rattle.report.proofs.column.column.Goals as goal

pub loop-i-preserved : goal.loop-i-preserved
loop-i-preserved c = column_on c.loop-i.invariant c.put_half.ensures c.requires.l_bound
