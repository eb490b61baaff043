-- Document 01's numbers for each answer of check.
use Rattle.std.specs.Prelude.{ℕ, Option, Some, None, Result, Ok, Err}
use Rattle.image.specs.declared.answer.Answer.{Answer}
use Rattle.image.specs.declared.answer.Kind.{Kind}
use Rattle.image.specs.declared.answer.Kind.TheVariants.{Flat, Layered}
use Rattle.image.specs.declared.answer.Refusal.{Refusal}
use Rattle.image.specs.declared.answer.Refusal.TheVariants.{Short, Mark, Count, Length, Record, Kind as NoKind, Layers}

abbrev pub refused : ℕ → ℕ → Answer
refused code place = record { code = code; place = place; kind = 0 }

-- 1 flat, 2 layered, 0 neither
abbrev pub kind_number : Option Kind → ℕ
kind_number (Some Flat) = 1
kind_number (Some Layered) = 2
kind_number None = 0

-- 2 short, 3 mark, 4 count, 5 length, 6 record, 7 kind, 8 layers
abbrev pub answer_of : Result Kind Refusal → Answer
answer_of (Ok k) = record { code = 0; place = 0; kind = kind_number (Some k) }
answer_of (Err Short) = refused 2 0
answer_of (Err Mark) = refused 3 0
answer_of (Err Count) = refused 4 0
answer_of (Err Length) = refused 5 0
answer_of (Err (Record place)) = refused 6 place
answer_of (Err NoKind) = refused 7 0
answer_of (Err Layers) = refused 8 0
