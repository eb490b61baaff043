use lib.ListN.{length}
use Rattle.solve.specs.FixedPoint.{evaluate_all}
use Rattle.solve.specs.Tables.{state_of, SameMemory}
use Rattle.solve.specs.Handing.{handed}
use Rattle.solve.proofs.Handing.{Through}
use Rattle.solve.proofs.worklist.Worklist.hand_out.Given as goal

abbrev pub invariant-loop-r : goal.invariant-loop-r
invariant-loop-r l =
    SameMemory l.initial.self l.self
    × Through l.inv l.relations l.entries (length l.initial.self.stack.now)
    (evaluate_all l.inv (handed l.relations l.entries) (state_of l.initial.self)) (state_of l.self) l.r-index
