use mathlib.Core.Path.{◌∙◌, ap}
use Rattle.effect.specs.Effect.{read}
use Rattle.effect_c.proofs.vine_effect_read.Goals as goal

pub returns : goal.returns
returns c = c.read.ensures ∙ ap read c.from.ensures
