use mathlib.Core.Path.{◌≡◌, ◌∙◌}
use native.Mathlib.Omega.{arith}
use Rattle.std.proofs.Common.{rules}
use lib.ListN.{length-map}
use Rattle.effect.specs.Effect.{effect_of}
use Rattle.solve.specs.FixedPoint.{evaluate_all}
use Rattle.solve.specs.Tables.{state_of, entries_of}
use Rattle.solve.specs.Handing.{handed, top_of, taken_of, Takeable}
use Rattle.solve.proofs.Memory.{same_memory, memory_on}
use Rattle.solve.proofs.Reading.{entered_as}
use Rattle.solve.proofs.Going.{going_start, held, v_in, takeable, takes_one, going_on, going_end}
use Rattle.solve.proofs.fixed_point.Goals as goal
use Rattle.solve.proofs.fixed_point.Goals.{In-Some, After-hand_out}

pub loop-v-init : goal.loop-v-init
loop-v-init c = (same_memory _, going_start c.start-worklist.ensures.state)

pub pop-requires : goal.pop-requires
pop-requires c =
    omega (
      arith,
      held c.loop-v.invariant.1 (entered_as c.args.effects.now c.requires.entered),
      length-map c.args.effects.now effect_of,
      c.requires.effects_in_bounds,
    )

-- what the turn asks
asked : (c : In-Some) → let r = c.args.relations in Takeable c.args.inv r.rows.now r.starts.now r.entries.now c.loop-v.worklist
asked c =
    let many = length-map c.args.effects.now effect_of in
    takeable c.loop-v.invariant.1 (entered_as c.args.effects.now c.requires.entered) c.in-Some.ensures.state.0
    (omega (arith, many, c.requires.effects_in_bounds, c.loop-v.invariant.0.room, c.start-worklist.ensures.room))
    (omega (arith, many, c.requires.effects_in_bounds))

pub dependents_of-requires : goal.dependents_of-requires
dependents_of-requires c =
    let at = (goal.at.dependents_of-requires c).In-Some in
    let entered = entered_as c.args.effects.now c.requires.entered in
    let q = c.in-Some.ensures.state in
    let e = entered.entered _ (v_in c.loop-v.invariant.1 entered q.0) in
    rw q.1 (record { started = (asked at).started; ordered = e.ordered; ended = e.ended })

pub hand_out-requires : goal.hand_out-requires
hand_out-requires c =
    let at = (goal.at.hand_out-requires c).In-Some in
    let q = c.in-Some.ensures in
    rw (c.dependents_of.ensures, q.state.1, q.memory.sized, q.memory.room, q.state.2) (asked at).handable

-- what the turn makes
made : (c : After-hand_out) → let r = c.args.relations in let w = c.loop-v.worklist in
    state_of c.hand_out.new.self ≡ evaluate_all c.args.inv (handed r.rows.now (entries_of r.starts.now r.entries.now (top_of w))) (taken_of w)
made c = let q = c.in-Some.ensures.state in rw (c.dependents_of.ensures, q.1, q.2) at c.hand_out.ensures.state

pub loop-v-smaller : goal.loop-v-smaller
loop-v-smaller c =
    let entered = entered_as c.args.effects.now c.requires.entered in
    let g = c.loop-v.invariant.1 in
    let waits = c.in-Some.ensures.state.0 in
    let at = (goal.at.loop-v-smaller c).After-hand_out in
    omega (arith, length-map c.args.effects.now effect_of, waits, held g entered, takes_one g entered waits c.hand_out.new.self (made at))

pub loop-v-preserved : goal.loop-v-preserved
loop-v-preserved c =
    let i = c.loop-v.invariant in
    let q = c.in-Some.ensures in
    let at = (goal.at.loop-v-preserved c).After-hand_out in (
      memory_on (memory_on i.0 q.memory) c.hand_out.ensures.memory,
      going_on i.1 (entered_as c.args.effects.now c.requires.entered) q.state.0 c.hand_out.new.self (made at),
    )

pub returns : goal.returns
returns c =
    let q = c.in_default.ensures in
    let w = c.pop.new.self in
    let ended = going_end c.loop-v.invariant.1 (entered_as c.args.effects.now c.requires.entered) q.state.0 w q.state.1 in
    let same = q.memory.same_reference ∙ c.loop-v.invariant.0.same_reference ∙ c.start-worklist.ensures.same_reference in
    search rules
