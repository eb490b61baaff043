-- What an image that check takes has passed.
use Rattle.std.specs.Prelude.{Err, Ok, Result}
use mathlib.Core.Path.{◌≡◌, ◌∙◌, refl, ap}
use mathlib.Core.Bool.{Bool, true, false}
use mathlib.Core.List.{List}
use Prim.Native.Nat.{ℕ}
use native.Mathlib.Omega.{arith}
use lib.Dec.{eqb, ltb}
use lib.ListN.{length}
use borrow.Author.Tests.{eqb-true}
use Rattle.records.specs.declared.layout.Counts.{Counts}
use Rattle.records.specs.declared.running.Running.{Running}
use Rattle.judging.specs.Judge.{walk_all}
use Rattle.records.specs.Layout.{counts_of, within, length_of, sections}
use Rattle.image.specs.declared.answer.Answer.{Answer}
use Rattle.image.specs.Check.{marked, owned, kind_answer, record_answer, check_of}
use Rattle.image.specs.View.{view_of}
use Rattle.image.proofs.Answering.{by_owner, by_header, by_tests, records}
use Rattle.records.specs.declared.running.Fault.{Fault}

pub record Taken (s : List ℕ) : Type 0 where
  pub mark : marked s ≡ true
  pub counted : within (counts_of s) ≡ true
  pub long : length s ≡ length_of (counts_of s)
  pub last : Running
  pub clean : walk_all s (counts_of s) sections (record { refs = 0; steps = 0; ports = 0 }) ≡ Ok last
  pub own : owned (counts_of s) last ≡ true

-- only the last of the header's answers can have code 0
past_header : (short mark count long : Bool) (a : Answer) → (by_header short mark count long a).code ≡ 0
    → (mark ≡ true) × (count ≡ true) × (long ≡ true) × (a.code ≡ 0)
past_header true mark count long a h = absurd (omega arith)
past_header false false count long a h = absurd (omega arith)
past_header false true false long a h = absurd (omega arith)
past_header false true true false a h = absurd (omega arith)
past_header false true true true a h = (refl, refl, refl, h)

record Ended (c : Counts) (w : Result Running Fault) : Type 0 where
  last : Running
  clean : w ≡ Ok last
  own : owned c last ≡ true

past_records : (s : List ℕ) (c : Counts) (w : Result Running Fault) → (record_answer s c w).code ≡ 0 → Ended c w
past_records s c (Err p) h = absurd (omega arith)
past_records s c (Ok r) h = record { last = r; clean = refl; own = go (owned c r) h }
  where
    go : (b : Bool) → (by_owner b (length s) (kind_answer (view_of s c))).code ≡ 0 → b ≡ true
    go true e = refl
    go false e = absurd (omega arith)

pub taken : (s : List ℕ) → (check_of s).code ≡ 0 → Taken s
taken s h =
    let four =
    past_header (ltb (length s) 21) (marked s) (within (counts_of s)) (eqb (length s) (length_of (counts_of s))) (records s)
    (ap (λ (a : Answer). a.code) (by_tests s) ∙ h) in
    let end = past_records s (counts_of s) (walk_all s (counts_of s) sections (record { refs = 0; steps = 0; ports = 0 })) four.3 in
    record {
      mark = four.0;
      counted = four.1;
      long = eqb-true (length s) (length_of (counts_of s)) four.2;
      last = end.last;
      clean = end.clean;
      own = end.own;
    }
