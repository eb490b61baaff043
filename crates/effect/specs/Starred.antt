-- The starred examples of document 01 on effects, in its order.
use Rattle.std.specs.Prelude.{List, [], ◌∷◌}
use Rattle.effect.specs.declared.Effect.{Effect}
use Rattle.effect.specs.declared.Effect.TheVariants.{Pass as P, Barrier as B, PassBarrier as PB, ReadPass as RP, ReadBarrier as RB, BarrierWrite as BW, PassBarrierWrite as PBW, ReadPassBarrierWrite as RPBW, Never as X}
use Rattle.effect.specs.Effect.{number_of, join, union}
use Rattle.effect.specs.Example.{Example}

-- the effect on the left is the one on the right
abbrev is : Effect → Effect → Example
is a b = record { given = number_of a ∷ []; said = number_of b ∷ [] }

unfoldable pub starred : List Example
starred =
    is (union B BW) B ∷
    is (join B BW) BW ∷
    is (join BW B) B ∷
    is (join PBW PB) PB ∷
    is (join B PBW) B ∷
    is (union RP BW) RPBW ∷
    is (union X RB) RB ∷
    is (join X RB) X ∷
    is (join P X) X ∷
    []
