use mathlib.Core.Path.{◌≡◌}
use Rattle.judging.specs.Judge.{walk_section}
use Rattle.records.specs.Layout.{place_of}
use Rattle.judging.proofs.Walks.{Walking}
use Rattle.judging.proofs.walk.walk_section.Given as goal

-- record k stands at p, and what is ahead of it gives the target
abbrev pub invariant-loop-k : goal.invariant-loop-k
invariant-loop-k g l =
    let c = l.records.counts in
    let x = g.R.Record.SECTION in
    record {
      walking : Walking l.records.bytes.now c x (walk_section l.records.bytes.now c x l.initial.r) l._k l.r;
      stands : l.p ≡ place_of c x l._k;
    }
