-- What each call promises, for every input: code, place, kind or length, and every byte of what it is lent.
use Rattle.std.specs.Prelude.{◌≡◌, Bool, true, false, ◌&&◌, ◌||◌, List, [], ◌∷◌, ◌++◌, map, ℕ, eqb, leb, length, drop, replicate}
use Rattle.image.specs.declared.answer.Answer.{Answer}
use Rattle.image.specs.Call.{Outcome, refusal}
use Rattle.image.specs.Check.{check_of}
use Rattle.normalizer.specs.Outcome.{normalise_of}
use Rattle.analyzer.specs.Outcome.{analyse_of}

-- check: the one answer that document 01 fixes
pub record Checked (bytes : List ℕ) (r : Answer) : Type 0 where
  pub answer : r ≡ check_of bytes

-- what a call that writes is lent: its output, and its work buffers
pub record Lent : Type 0 where
  pub output : List ℕ
  pub works : List (List ℕ)

-- what it returns: code, place, bytes written
pub record Reply : Type 0 where
  pub code : ℕ
  pub place : ℕ
  pub written : ℕ

-- each work buffer has its stated length
unfoldable pub roomy : List ℕ → List (List ℕ) → Bool
roomy [] ws = true
roomy (n ∷ ns) [] = false
roomy (n ∷ ns) (w ∷ ws) = leb n (length w) && roomy ns ws

-- 1 room, before all others: output under 63,893 bytes, or a work buffer under its stated length; then what the image gets
abbrev pub outcome_in : List ℕ → Lent → Outcome → Outcome
outcome_in lengths lent o = elim (leb 63893 (length lent.output) && roomy lengths lent.works) [ true ↦ o | false ↦ refusal 1 0 ]

abbrev pub reply_of : Outcome → Reply
reply_of o = record { code = o.code; place = o.place; written = length o.bytes }

-- a refusal writes nothing; on 0, output past the written bytes is unchanged. Work buffers are zero after 0 and 9, else unchanged
abbrev pub leaves : Outcome → Lent → Lent
leaves o lent = record {
  output = o.bytes ++ drop (length o.bytes) lent.output;
  works = elim (eqb o.code 0 || eqb o.code 9) [ true ↦ map (λ w. replicate (length w) 0) lent.works | false ↦ lent.works ];
}

-- a call that writes: the reply, and what it leaves of what it was lent, follow from what it was lent and from the image's outcome
pub record Called (lengths : List ℕ) (o : Outcome) (before after : Lent) (r : Reply) : Type 0 where
  pub reply : r ≡ reply_of (outcome_in lengths before o)
  pub lent : after ≡ leaves (outcome_in lengths before o) before

-- normalise and analyse; `lengths` are the work buffers' stated lengths, constants of the library
abbrev pub Normalised : List ℕ → List ℕ → Lent → Lent → Reply → Type 0
Normalised lengths bytes = Called lengths (normalise_of bytes)

abbrev pub Analysed : List ℕ → ℕ → List ℕ → Lent → Lent → Reply → Type 0
Analysed lengths span bytes = Called lengths (analyse_of span bytes)
