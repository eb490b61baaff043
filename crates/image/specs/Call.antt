-- Document 01, "What a call returns": what normalise and analyse answer to an image, before room is looked at.
use Rattle.std.specs.Prelude.{cond, not, ◌&&◌, ◌||◌, List, [], ◌∷◌, ℕ, eqb}
use Rattle.image.specs.declared.answer.Answer.{Answer}

-- code, place, and the bytes written: none where the call refuses
pub record Outcome : Type 0 where
  pub code : ℕ
  pub place : ℕ
  pub bytes : List ℕ

abbrev pub refusal : ℕ → ℕ → Outcome
refusal code place = record { code = code; place = place; bytes = [] }

abbrev pub done : List ℕ → Outcome
done bytes = record { code = 0; place = 0; bytes = bytes }

-- the kind that check found; one whose layer rules are broken is layered
abbrev pub kind_found : Answer → ℕ
kind_found a = cond (eqb a.code 8) 2 a.kind

-- check's code, or 7 if the image is of a kind that the call does not take
abbrev pub code_for : ℕ → Answer → ℕ
code_for kind a = cond ((eqb a.code 0 || eqb a.code 8) && not (eqb (kind_found a) kind)) 7 a.code

-- an answer as numbers: code, place, and the bytes
abbrev pub numbers : Outcome → List ℕ
numbers o = o.code ∷ o.place ∷ o.bytes
