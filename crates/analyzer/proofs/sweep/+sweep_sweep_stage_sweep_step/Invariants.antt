-- What falls along the calls of `sweep`: thrice the interfaces that are not met, and below that a stage is above its steps.
use Rattle.std.proofs.Common.{◌+◌, ◌*◌}
use Rattle.image.specs.Entering.{action_at}
use Rattle.image.specs.LayerRules.{transfer_to}
use Rattle.image.specs.View.{view}
use Rattle.reading.specs.Read.{ref_nth}
use Rattle.analyzer.specs.Sweep.{unmet}
use Rattle.analyzer.proofs.Onward.{onward_to}
use Rattle.analyzer.proofs.Sweeping.{Walking}
use Rattle.analyzer.proofs.sweep.+sweep_sweep_stage_sweep_step.Given as goal

abbrev pub decreases-sweep : goal.decreases-sweep
decreases-sweep l = 3 * unmet l.incoming.now

abbrev pub decreases-sweep_stage : goal.decreases-sweep_stage
decreases-sweep_stage l = 3 * unmet l.incoming.now + 2

abbrev pub decreases-sweep_step : goal.decreases-sweep_step
decreases-sweep_step l = 3 * unmet l.incoming.now + 1

-- an interface's loop over the stages that it lists
abbrev pub invariant-sweep-loop-k : goal.invariant-sweep-loop-k
invariant-sweep-loop-k l =
    let s = l.image.records.bytes.now in
    Walking (view s) (onward_to s) (ref_nth s l.image.records.counts) l.initial.k l.k-end l.initial.incoming l.incoming l.k

-- a stage's loop over its steps
abbrev pub invariant-sweep_stage-loop-j : goal.invariant-sweep_stage-loop-j
invariant-sweep_stage-loop-j l =
    let s = l.image.records.bytes.now in
    Walking (view s) (λ a. transfer_to a.step) (action_at s l.image.records.counts) l.initial.j l.j-end l.initial.incoming l.incoming l.j
