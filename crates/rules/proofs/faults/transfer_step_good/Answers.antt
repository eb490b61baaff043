use Rattle.rules.proofs.Asked.{step-transfers}
use Rattle.rules.proofs.faults.transfer_step_good.Goals as goal

pub returns : goal.returns
returns c =
    step-transfers c.args.c c.args.t c.requires
