use Rattle.std.proofs.Common.{List, ℕ, ◌+◌, ◌*◌}
use Rattle.records.specs.declared.layout.Counts.{Counts}
use Rattle.records.specs.Bytes.{u16_at}
use Rattle.records.specs.Layout.{refs_at}
use Rattle.image.specs.Kind.{all, present}
use Rattle.image.specs.Tally.{tally, field_is}
use Rattle.image.specs.View.{refs_from}
use Rattle.image.proofs.Tallies.{Tallying}
use Rattle.image.proofs.tally.tally_run.Given as goal

-- ref k
abbrev pub entry : List ℕ → Counts → ℕ → ℕ
entry s c k = u16_at s (refs_at c + 2 * k)

abbrev pub invariant-loop-k : goal.invariant-loop-k
invariant-loop-k l =
    Tallying (field_is l.records.bytes.now l.records.counts l.f l.owner) (entry l.records.bytes.now l.records.counts)
    (all (field_is l.records.bytes.now l.records.counts l.f l.owner) (present (refs_from l.records.bytes.now l.records.counts l.fn.run)))
    (tally (present (refs_from l.records.bytes.now l.records.counts l.fn.run)) l.initial.counts)
    (l.fn.run.first + l.fn.run.count) l.k l.ok l.counts
