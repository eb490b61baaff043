use Rattle.ownership_c.proofs.vine_check.Goals as goal

pub returns : goal.returns
returns c = c.vine_check.ensures
