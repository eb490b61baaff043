-- The cycle of calls of `sweep`: an interface with the loop over the stages that it lists, a stage with the loop over its steps, and a step.
use Rattle.std.proofs.Common.{◌∙◌, ℕ, ◌<◌, ◌≤◌, refl, sym, ap, subst, length, arith}
use Rattle.image.specs.Accepted.{NamedOrNone}
use Rattle.image.specs.View.{view}
use Rattle.reading.proofs.Reading.{image_of, interfaces-many}
use Rattle.analyzer.proofs.Counts.{at_most, unmet-first}
use Rattle.analyzer.proofs.Onward.{onward_to, listed-onward, onward-long, nowhere, stage-onward}
use Rattle.analyzer.proofs.Sweeping.{ready_as, sweeping_start, sweeping_as, walking_ready, walking_on, walking_end, come_again, first_ready, come_first}
use Rattle.analyzer.proofs.sweep.+sweep_sweep_stage_sweep_step.Goals as goal

pub sweep-overflow_add-incoming : goal.sweep-overflow_add-incoming
sweep-overflow_add-incoming t c = omega (arith, at_most c.args.incoming.now c.args.i.0, c.requires.ready.room)

pub sweep-returns-then-again : goal.sweep-returns-then-again
sweep-returns-then-again t c = come_again c.args.i.0 c.if-again.true

pub sweep-sweep_stage-requires : goal.sweep-sweep_stage-requires
sweep-sweep_stage-requires t c =
    let w = c.loop-k.invariant in
    let s = c.args.image.now.records.bytes.now in
    let below : c.args.i.0 < length c.args.incoming.now = omega (arith, c.requires.ready, c.requires.i_lt_interfaces) in
    let m = image_of c.args.image.now in
    let read = c.stages-list.ensures in
    let entry = c.reference.ensures in (
      omega (arith, w.sweeping.fewer, unmet-first c.args.incoming.now c.args.i.0 below c.if-again.false, c.decreases),
      (
        subst (λ (t : ℕ). NamedOrNone t c.args.image.now.records.counts.stages) (sym entry) (read.named c.loop-k.k c.loop-k.auto.k c.loop-k-test.true),
        ready_as (ap (onward_to s) (sym entry))
            (walking_ready w _ refl c.loop-k-test.true
            (first_ready (view s) c.args.i.0 below c.if-again.false (listed-onward m read) (onward-long m read) c.requires.ready)),
      ),
    )

pub sweep-loop-k-preserved : goal.sweep-loop-k-preserved
sweep-loop-k-preserved t c =
    walking_on c.loop-k.invariant c.loop-k-test.true
    (sweeping_as (ap (onward_to c.args.image.now.records.bytes.now) c.reference.ensures) c.sweep_stage.ensures)

pub sweep-returns : goal.sweep-returns
sweep-returns t c =
    let below : c.args.i.0 < length c.args.incoming.now = omega (arith, c.requires.ready, c.requires.i_lt_interfaces) in
    let m = image_of c.args.image.now in
    let read = c.stages-list.ensures in
    come_first (view c.args.image.now.records.bytes.now) c.args.i.0 below c.if-again.false (listed-onward m read) (onward-long m read)
    (c.requires.ready.sized ∙ sym (interfaces-many m))
    (walking_end c.loop-k.invariant _ refl c.loop-k-test.false)

pub sweep_stage-returns-then-t-eq-NONE : goal.sweep_stage-returns-then-t-eq-NONE
sweep_stage-returns-then-t-eq-NONE t c =
    let past : c.args.image.now.records.counts.stages ≤ c.args.t.0 = omega (arith, c.if-t-eq-NONE.true, c.args.image.now.records.sized.stages) in
    sweeping_as (sym (nowhere (image_of c.args.image.now) c.args.t.0 past)) sweeping_start

pub sweep_stage-sweep_step-requires : goal.sweep_stage-sweep_step-requires
sweep_stage-sweep_step-requires t c =
    let w = c.loop-j.invariant in
    let read = c.stage.ensures in (
      omega (arith, w.sweeping.fewer, c.decreases),
      (
        omega (arith, c.loop-j-test.true, read.facts.steps_fit),
        walking_ready w _ refl c.loop-j-test.true (ready_as (stage-onward read) c.requires.ready),
      ),
    )

pub sweep_stage-loop-j-preserved : goal.sweep_stage-loop-j-preserved
sweep_stage-loop-j-preserved t c = walking_on c.loop-j.invariant c.loop-j-test.true c.sweep_step.ensures

pub sweep_stage-returns : goal.sweep_stage-returns
sweep_stage-returns t c =
    sweeping_as (sym (stage-onward c.stage.ensures)) (walking_end c.loop-j.invariant _ refl c.loop-j-test.false)
