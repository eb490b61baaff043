-- What normalise answers to an image, of whatever bytes.
use Rattle.std.specs.Prelude.{true, false, List, ℕ, eqb}
use Rattle.records.specs.Layout.{within}
use Rattle.image.specs.Call.{Outcome, refusal, done, code_for}
use Rattle.image.specs.Check.{check_of}
use Rattle.image.specs.Encode.{encode, counts_of_vir}
use Rattle.image.specs.View.{view}
use Rattle.image.specs.Vir.{Vir}
use Rattle.normalizer.specs.Normalize.{normalize}

-- 9 excess: a count of the result over its maximum
abbrev pub laid_out : Vir → Outcome
laid_out v = elim (within (counts_of_vir v)) [ true ↦ done (encode v) | false ↦ refusal 9 0 ]

-- a layered image to a flat one
unfoldable pub normalise_of : List ℕ → Outcome
normalise_of s =
    elim (eqb (code_for 2 (check_of s)) 0) [
      | true ↦ laid_out (normalize (view s))
      | false ↦ refusal (code_for 2 (check_of s)) (check_of s).place
    ]
