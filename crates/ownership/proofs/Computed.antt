-- What a call leaves of what it was lent, by computing: after 0, after 9, after another refusal, and where there is no room;
-- and room itself: an output and a buffer just long enough, and one element short.
use mathlib.Core.Path.{refl}
use mathlib.Core.List.{List, [], ◌∷◌, ◌++◌, map}
use lib.ListN.{replicate}
use Prim.Native.Nat.{ℕ}
use Rattle.effect.specs.Example.{Example, Hold}
use Rattle.image.specs.Call.{Outcome, refusal, done}
use Rattle.image.specs.Kind.{concat}
use Rattle.ownership.specs.Promises.{Lent, roomy, outcome_in, reply_of, leaves}

-- three bytes of output, and two work buffers
lent : Lent
lent = record { output = 9 ∷ 8 ∷ 7 ∷ []; works = (5 ∷ 6 ∷ []) ∷ (4 ∷ []) ∷ [] }

-- code, place, bytes written, the output, and the work buffers
after : Outcome → List ℕ
unfolding concat
after o =
    (reply_of o).code ∷ (reply_of o).place ∷ (reply_of o).written ∷ [] ++ (leaves o lent).output ++ concat (λ w. w) (leaves o lent).works

-- the code that an image gets which is refused with 2: 1 where there is no room
code : ℕ → List ℕ → List ℕ → List ℕ
code output lengths works =
    (outcome_in lengths (record { output = replicate output 9; works = map (λ n. replicate n 5) works }) (refusal 2 0)).code ∷ []

pub computed : List Example
computed =
    record { given = after (done (1 ∷ 2 ∷ [])); said = 0 ∷ 0 ∷ 2 ∷ 1 ∷ 2 ∷ 7 ∷ 0 ∷ 0 ∷ 0 ∷ [] } ∷
    record { given = after (refusal 9 0); said = 9 ∷ 0 ∷ 0 ∷ 9 ∷ 8 ∷ 7 ∷ 0 ∷ 0 ∷ 0 ∷ [] } ∷
    record { given = after (refusal 6 21); said = 6 ∷ 21 ∷ 0 ∷ 9 ∷ 8 ∷ 7 ∷ 5 ∷ 6 ∷ 4 ∷ [] } ∷
    record { given = after (outcome_in [] lent (refusal 2 0)); said = 1 ∷ 0 ∷ 0 ∷ 9 ∷ 8 ∷ 7 ∷ 5 ∷ 6 ∷ 4 ∷ [] } ∷
    record { given = code 63893 [] []; said = 2 ∷ [] } ∷
    record { given = code 63892 [] []; said = 1 ∷ [] } ∷
    record { given = code 63893 (3 ∷ 2 ∷ []) (3 ∷ 2 ∷ []); said = 2 ∷ [] } ∷
    record { given = code 63893 (3 ∷ 2 ∷ []) (4 ∷ 3 ∷ []); said = 2 ∷ [] } ∷
    record { given = code 63893 (3 ∷ 2 ∷ []) (2 ∷ 2 ∷ []); said = 1 ∷ [] } ∷
    record { given = code 63893 (3 ∷ 2 ∷ []) (3 ∷ 1 ∷ []); said = 1 ∷ [] } ∷
    record { given = code 63893 (3 ∷ 2 ∷ []) (3 ∷ []); said = 1 ∷ [] } ∷
    []

pub hold : Hold computed
unfolding computed after lent code roomy
hold = (refl, (refl, (refl, (refl, (refl, (refl, (refl, (refl, (refl, (refl, (refl, tt)))))))))))
