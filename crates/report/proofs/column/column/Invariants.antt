use Rattle.report.specs.Writing.{Column}
use Rattle.report.proofs.column.column.Given as goal

abbrev pub invariant-loop-i : goal.invariant-loop-i
invariant-loop-i l = Column l.at l.size l.i l.l l.halves l.initial.out l.out
