use mathlib.Core.Path.{◌≡◌, refl}
use Rattle.effect.specs.declared.TheConstants.{UNION as TABLE}
use Rattle.effect.specs.Effect.{union, UNION}
use Rattle.effect.proofs.Finite.{tag_number, read_off}
use Rattle.effect.proofs.Effect.union.Goals as goal

-- the code's table is the definition's
table : TABLE ≡ UNION
unfolding UNION
table = refl

pub returns : goal.returns
unfolding union
returns c = read_off TABLE UNION table _ _ c.args.self c.args.other (tag_number c.args.self) (tag_number c.args.other)
