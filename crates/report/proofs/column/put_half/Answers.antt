use Rattle.report.proofs.Halves.{halved_even, halved_odd}
use Rattle.report.proofs.column.put_half.Goals as goal

pub returns-then-l-eq0 : goal.returns-then-l-eq0
returns-then-l-eq0 c = halved_even _ _ _ _ c.requires.l_in_bounds c.if-l-eq0.true

pub returns-else-l-eq0 : goal.returns-else-l-eq0
returns-else-l-eq0 c = halved_odd _ _ _ _ c.requires.l_in_bounds c.if-l-eq0.false
