use Rattle.rules.proofs.Asked.{step-invoked}
use Rattle.rules.proofs.faults.invoke_good.Goals as goal

pub returns : goal.returns
returns c =
    step-invoked c.args.c c.args.t c.requires
