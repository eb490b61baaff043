use Rattle.solve.specs.Tables.{effects_of, state_of, SameMemory}
use Rattle.solve.proofs.Seeding.{Seeding}
use Rattle.solve.proofs.worklist.Worklist.start.Given as goal

abbrev pub invariant-loop-v : goal.invariant-loop-v
invariant-loop-v l = SameMemory l.initial.worklist l.worklist × Seeding (effects_of l.fn.effects) (state_of l.worklist) l.v
