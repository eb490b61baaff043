use Rattle.std.proofs.Common.{ℕ, ◌∙◌, ap}
use native.Mathlib.Omega.{arith}
use Rattle.image.specs.Tally.{tally_entry, field_is, owns}
use Rattle.image.proofs.Tallies.{tallying_on, tallying_end}
use Rattle.image.proofs.tally.tally_run.Goals as goal

pub loop-k-preserved : goal.loop-k-preserved
loop-k-preserved c =
    let records = c.args.records.now in
    let ensures = c.tally_entry-ok.ensures in
    tallying_on c.loop-k.invariant (omega (arith, c.loop-k-test.true, c.end-k-end.ensures))
    (ensures.0 ∙ ap (λ (e : ℕ). owns (field_is records.bytes.now records.counts c.args.f c.args.owner) e c.loop-k.ok) c.reference.ensures)
    (ensures.1 ∙ ap (λ (e : ℕ). tally_entry e c.loop-k.counts) c.reference.ensures)

pub returns : goal.returns
returns c = tallying_end c.loop-k.invariant (omega (arith, c.loop-k-test.false, c.end-k-end.ensures))
