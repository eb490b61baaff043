use mathlib.Core.Path.{◌≡◌, ◌∙◌, sym, ap₂}
use denote.Enum.Bare.{differs_true, differs_false}
use Rattle.effect.specs.contracts.Effect.{the_type}
use Rattle.effect.specs.Effect.{union}
use Rattle.solve.proofs.Stores.{new, stays, has_room, rises}
use Rattle.solve.proofs.worklist.Worklist.evaluate.Goals as goal
use Rattle.solve.proofs.worklist.Worklist.evaluate.Goals.{After-union-new, Then-ne}

-- the effect that the out is to have, as it was computed
given : (c : After-union-new) → c.union-new.result ≡ new c.args.inv c.args.r c.args.self.now
given c = c.union-new.ensures ∙ ap₂ union c.effect-old.ensures c.value.ensures

differ : (c : Then-ne) → c.union-new.result ≡ c.effect-old.result → ⊥
differ c = differs_true the_type _ _ (sym c.ne.ensures ∙ c.if-ne.true)

pub push-requires : goal.push-requires
push-requires c =
    let at = goal.at.push-requires c in
    has_room c.args.inv c.args.r c.args.self.now (given at.After-union-new) c.effect-old.ensures (differ at.Then-ne) c.requires.room

pub returns-then-ne-clause-state : goal.returns-then-ne-clause-state
returns-then-ne-clause-state c =
    let at = goal.at.returns-then-ne-clause-state c in
    c.push.ensures.state
    ∙ rises c.args.inv c.args.r c.args.self.now (given at.After-union-new) c.effect-old.ensures (differ at.Then-ne) c.from.ensures

pub returns-else-ne-clause-state : goal.returns-else-ne-clause-state
returns-else-ne-clause-state c =
    let at = goal.at.returns-else-ne-clause-state c in
    stays c.args.inv c.args.r c.args.self.now (given at.After-union-new) c.effect-old.ensures
    (differs_false the_type tt _ _ (sym c.ne.ensures ∙ c.if-ne.false))
