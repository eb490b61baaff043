use mathlib.Core.Path.{◌∙◌, ap}
use native.Mathlib.Nat.{le_refl}
use Rattle.std.specs.Option.{unwrap_or}
use Rattle.effect.specs.declared.Effect.TheVariants.{Never}
use Rattle.effect.specs.Effect.{effect_of}
use Rattle.effect.proofs.EffectFromU8.from.Goals as goal

pub returns : goal.returns
unfolding effect_of
returns c =
    c.unwrap_or.ensures
    ∙ ap (λ o. unwrap_or o Never) c.copied.ensures
    ∙ c.get.ensures.lookup.4 (le_refl c.args.n) Never
