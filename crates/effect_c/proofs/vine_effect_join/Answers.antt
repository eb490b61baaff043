use mathlib.Core.Path.{◌∙◌, ap, ap₂}
use Rattle.effect.specs.Effect.{number_of, join}
use Rattle.effect_c.proofs.vine_effect_join.Goals as goal

pub returns : goal.returns
returns c = c.into.ensures ∙ ap number_of (c.join.ensures ∙ ap₂ join c.from.ensures c.from-2.ensures)
