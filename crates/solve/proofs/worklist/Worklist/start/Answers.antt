use mathlib.Core.Path.{◌≡◌, ◌∙◌, sym, ap}
use Prim.Native.Nat.{◌<◌}
use native.Mathlib.Omega.{arith}
use denote.Enum.Bare.{differs_true, differs_false}
use lib.ListN.{length, length-map}
use Rattle.effect.specs.declared.Effect.TheVariants.{Never}
use Rattle.effect.specs.contracts.Effect.{the_type}
use Rattle.solve.specs.FixedPoint.{State, effect_at}
use Rattle.solve.specs.Tables.{effects_of}
use Rattle.solve.proofs.Memory.{memory_on}
use Rattle.solve.proofs.Seeding.{passed, pushed, seeding_end}
use Rattle.solve.proofs.Stack.{length-top_first}
use Rattle.solve.proofs.worklist.Worklist.start.Goals as goal
use Rattle.solve.proofs.worklist.Worklist.start.Goals.{then-ne, else-ne}

pub push-requires : goal.push-requires
push-requires c =
    let w = c.loop-v.worklist in
    omega (arith, c.loop-v.invariant.1.few, length-top_first w.waiting w.stack.now, c.loop-v.invariant.0.room, c.requires)

pub loop-v-preserved : goal.loop-v-preserved
loop-v-preserved c =
    let i = c.loop-v.invariant in
    let at : c.loop-v.v < length (effects_of c.args.effects.now) = rw length-map c.loop-v-test.true in
    let read : c.effect.result ≡ effect_at (effects_of c.args.effects.now) c.loop-v.v = c.effect.ensures ∙ ap (λ (s : State). effect_at s.effects c.loop-v.v) i.1.here in
    elim c.if-ne.branch [
      | then-ne w ↦
          let enters : effect_at (effects_of c.args.effects.now) c.loop-v.v ≡ Never → ⊥ =
          λ e. differs_true the_type _ _ (sym c.ne.ensures ∙ w.if-ne.true) (read ∙ e) in
          rw w.worklist-is (memory_on i.0 w.push.ensures.memory, pushed i.1 at enters w.push.ensures.state)
      | else-ne w ↦
          rw w.worklist-is (i.0, passed i.1 at (sym read ∙ differs_false the_type tt _ _ (sym c.ne.ensures ∙ w.if-ne.false)))
    ]

pub returns-clause-state : goal.returns-clause-state
returns-clause-state c = seeding_end c.loop-v.invariant.1 (rw length-map c.loop-v-test.false)
