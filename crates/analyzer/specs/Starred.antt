-- The starred example of document 01 on analysing: eight variables, five relations, and a report of 38 bytes.
use Rattle.std.specs.Prelude.{List, [], ◌∷◌, length}
use Rattle.effect.specs.Example.{Example}
use Rattle.image.specs.Call.{numbers}
use Rattle.image.specs.Samples.{example}
use Rattle.image.specs.View.{view}
use Rattle.analyzer.specs.Demand.{network_of}
use Rattle.analyzer.specs.Outcome.{analyse_of}

unfoldable pub starred : List Example
starred =
    record {
      given = (network_of (view example)).vars ∷ length (network_of (view example)).relations ∷ [];
      said = 8 ∷ 5 ∷ [];
    } ∷
    record {
      given = numbers (analyse_of 0 example);
      said =
          0 ∷ 0 ∷
          86 ∷ 65 ∷ 82 ∷ 1 ∷ 0 ∷ 1 ∷ 0 ∷ 1 ∷ 0 ∷ 1 ∷ 7 ∷ 0 ∷ 0 ∷ 0 ∷ 13 ∷ 0 ∷ 0 ∷ 0 ∷ 1 ∷ 0 ∷ 0 ∷ 0 ∷ 1 ∷ 0 ∷
          1 ∷ 0 ∷ 0 ∷ 0 ∷
          0 ∷
          3 ∷ 9 ∷ 0 ∷ 0 ∷ 0 ∷ 0 ∷ 0 ∷ 0 ∷ 0 ∷ [];
    } ∷
    []
