use Rattle.rules.proofs.Asked.{step_diverges}
use Rattle.rules.proofs.faults.diverge_good.Goals as goal

pub returns : goal.returns
returns c =
    step_diverges c.args.c c.args.t c.requires c.or_none.ensures
