use native.Mathlib.Omega.{arith}
use Rattle.solve.proofs.Handing.{through_room, through_on, through_end}
use Rattle.solve.proofs.Memory.{memory_on}
use Rattle.solve.proofs.worklist.Worklist.hand_out.Goals as goal

pub evaluate-requires-clause-room : goal.evaluate-requires-clause-room
evaluate-requires-clause-room c =
    let i = c.loop-r.invariant in
    omega (arith, through_room i.1 c.loop-r-test.true, i.0.room)

pub loop-r-preserved : goal.loop-r-preserved
loop-r-preserved c =
    let i = c.loop-r.invariant in
    let q = c.evaluate.ensures in
    (memory_on i.0 q.memory, through_on i.1 c.loop-r-test.true q.state)

pub returns-clause-state : goal.returns-clause-state
returns-clause-state c = through_end c.loop-r.invariant.1 c.loop-r-test.false
