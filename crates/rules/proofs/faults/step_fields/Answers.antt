use Rattle.rules.proofs.faults.step_fields.Goals as goal

pub returns : goal.returns
returns c = c.other_good.ensures c.args.c
