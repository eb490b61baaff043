use Rattle.rules.proofs.Asked.{step_others, step-none}
use Rattle.rules.proofs.faults.other_good.Goals as goal

pub returns-then-t-gt20 : goal.returns-then-t-gt20
returns-then-t-gt20 c counts = step-none counts c.args.t c.if-t-gt20.true

pub returns : goal.returns
returns c counts =
    step_others counts c.args.t c.requires (c.other_has.ensures c.args.t.a c.args.t.b)
