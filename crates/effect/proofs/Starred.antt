-- The starred examples on effects hold.
use mathlib.Core.Path.{refl}
use Rattle.effect.specs.Effect.{join, union, JOIN, UNION}
use Rattle.effect.specs.Example.{Hold}
use Rattle.effect.specs.Starred.{starred}

pub hold : Hold starred
unfolding starred join union JOIN UNION
hold = (refl, (refl, (refl, (refl, (refl, (refl, (refl, (refl, (refl, tt)))))))))
