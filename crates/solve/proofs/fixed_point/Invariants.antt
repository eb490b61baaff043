use Prim.Native.Nat.{◌-◌, ◌*◌}
use lib.ListN.{length}
use Rattle.solve.specs.Tables.{relations_of, effects_of, SameMemory}
use Rattle.solve.proofs.Going.{Going}
use Rattle.solve.proofs.fixed_point.Given as goal

abbrev pub invariant-loop-v : goal.invariant-loop-v
invariant-loop-v l = SameMemory l.initial.worklist l.worklist × Going l.inv (relations_of l.relations.rows.now l.held) (effects_of l.fn.effects) l.worklist

abbrev pub decreases-loop-v : goal.decreases-loop-v
decreases-loop-v l = 4 * length l.fn.effects - l.worklist.takes
