use mathlib.Core.Path.{◌∙◌, sym}
use native.Mathlib.Omega.{arith}
use Rattle.rules.proofs.Fits.{stage-fits}
use Rattle.rules.proofs.faults.stage_good.Goals as goal

pub listed_below-requires : goal.listed_below-requires
listed_below-requires c = omega (arith, stage-fits c.args.c c.args.r c.args.t (sym c.stage_fields.ensures ∙ c.if-stage_fields.true))
