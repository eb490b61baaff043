use Rattle.std.proofs.Common.{ok_or, Err, Option, Result}
use mathlib.Core.Path.{◌≡◌, ◌∙◌, sym, ap, ap₂}
use Prim.Native.Nat.{ℕ, ◌+◌, ◌<◌, ◌≤◌}
use native.Mathlib.Omega.{arith}
use lib.ListN.{length}
use Rattle.records.specs.declared.running.Fault.{Fault}
use Rattle.records.specs.declared.running.Running.{Running}
use Rattle.records.specs.Layout.{place_of, size_of, count_of, start_of}
use Rattle.judging.specs.Judge.{judge}
use Rattle.judging.proofs.Walks.{record_room, most_bytes, first_place, next_place, walking_start, walking_fault, walking_on, walking_end}
use Rattle.judging.proofs.walk.walk_section.Given.{Over}
use Rattle.judging.proofs.walk.walk_section.Goals as goal
use Rattle.judging.proofs.walk.walk_section.Goals.{In-loop-k, After-judge}

-- there is a record k
more : (g : Over) (c : In-loop-k g) → c.loop-k._k < count_of c.args.records.now.counts g.R.Record.SECTION
more g c = omega (arith, c.loop-k-test.true, c.count-k-end.ensures ∙ ap (count_of c.args.records.now.counts) c.SECTION-2.ensures)

-- .. and the bytes have it
room : (g : Over) (c : In-loop-k g) → c.loop-k.p + size_of g.R.Record.SECTION ≤ length c.args.records.now.bytes.now
room g c =
    omega (arith, c.loop-k.invariant.stands, record_room _ _ g.R.Record.SECTION c.loop-k._k c.args.records.now.sized (more g c))

-- the record, as the section's definition judges it
judged : (g : Over) (c : After-judge g)
    → c.judge.result ≡ judge g.R.Record.SECTION c.args.records.now.bytes.now c.args.records.now.counts (place_of c.args.records.now.counts g.R.Record.SECTION c.loop-k._k) c.loop-k.r
judged g c =
    c.judge.ensures
    ∙ ap (g.R.Judge.judged c.args.records.now.bytes.now c.args.records.now.counts c.loop-k.r)
    (c.read.ensures ∙ ap (g.R.Record.at c.args.records.now.bytes.now) c.loop-k.invariant.stands)
    ∙ g.met.R.Judge.of_section _ _ _ _

-- .. and what that answers
abbrev answer : (g : Over) → After-judge g → Option Running → Result Running Fault
answer g c judged = ok_or {E = Fault} judged (record { 0 = place_of c.args.records.now.counts g.R.Record.SECTION c.loop-k._k })

pub loop-k-init : goal.loop-k-init
loop-k-init g c =
    record {
      walking = walking_start _ _ _ _;
      stands = c.start-p.ensures ∙ ap (start_of c.args.records.now.counts) c.SECTION.ensures ∙ first_place c.args.records.now.counts g.R.Record.SECTION;
    }

pub read-requires : goal.read-requires
read-requires g c = room g (goal.at.read-requires g c).In-loop-k

pub overflow_cast-result : goal.overflow_cast-result
overflow_cast-result g c = omega (arith, room g (goal.at.overflow_cast-result g c).In-loop-k, most_bytes _ _ c.args.records.now.sized)

pub overflow_add-p : goal.overflow_add-p
overflow_add-p g c =
    omega (
      arith,
      room g (goal.at.overflow_add-p g c).In-loop-k,
      most_bytes _ _ c.args.records.now.sized,
      c.size-p.ensures ∙ ap size_of c.SECTION-in-loop-k.ensures,
    )

pub returns-in_default : goal.returns-in_default
returns-in_default g c =
    let at = goal.at.returns-in_default g c in
    ap {B = Result Running Fault} (λ (p : ℕ). Err (record { 0 = p })) c.loop-k.invariant.stands
    ∙ walking_fault c.loop-k.invariant.walking (more g at.In-loop-k) (judged g at.After-judge) (ap (answer g at.After-judge) c.in_default.is)

pub loop-k-preserved : goal.loop-k-preserved
loop-k-preserved g c =
    let at = goal.at.loop-k-preserved g c in
    record {
      walking = walking_on c.loop-k.invariant.walking (more g at.In-loop-k) (judged g at.After-judge) (ap (answer g at.After-judge) c.in-Some.is);
      stands =
          ap₂ ◌+◌ c.loop-k.invariant.stands (c.size-p.ensures ∙ ap size_of c.SECTION-in-loop-k.ensures)
          ∙ sym (next_place c.args.records.now.counts g.R.Record.SECTION c.loop-k._k);
    }

pub returns : goal.returns
returns g c =
    walking_end c.loop-k.invariant.walking
    (omega (arith, c.loop-k-test.false, c.count-k-end.ensures ∙ ap (count_of c.args.records.now.counts) c.SECTION-2.ensures))
