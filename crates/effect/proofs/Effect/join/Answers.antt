use mathlib.Core.Path.{◌≡◌, refl}
use Rattle.effect.specs.declared.TheConstants.{JOIN as TABLE}
use Rattle.effect.specs.Effect.{join, JOIN}
use Rattle.effect.proofs.Finite.{tag_number, read_off}
use Rattle.effect.proofs.Effect.join.Goals as goal

-- the code's table is the definition's
table : TABLE ≡ JOIN
unfolding JOIN
table = refl

pub returns : goal.returns
unfolding join
returns c = read_off TABLE JOIN table _ _ c.args.self c.args.other (tag_number c.args.self) (tag_number c.args.other)
