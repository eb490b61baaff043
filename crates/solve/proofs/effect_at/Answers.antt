use mathlib.Core.Path.{◌∙◌}
use Rattle.solve.proofs.Stack.{effect-read}
use Rattle.solve.proofs.effect_at.Goals as goal

pub returns : goal.returns
returns c =
    c.from.ensures ∙ effect-read c.args.effects.now c.args.v c.requires
