use mathlib.Core.Path.{ap}
use mathlib.Core.List.{List}
use Prim.Native.Nat.{ℕ}
use Rattle.solve.specs.FixedPoint.{State}
use Rattle.solve.specs.Tables.{state_of}
use Rattle.solve.proofs.Stack.{top_first_push}
use Rattle.solve.proofs.worklist.Worklist.push.Goals as goal

pub returns-clause-state : goal.returns-clause-state
returns-clause-state c =
    let w = c.args.self.now in
    let s : State = state_of w in
    ap (λ (l : List ℕ). record s { dirty = l }) (top_first_push w.waiting w.stack.now c.args.v c.requires)
