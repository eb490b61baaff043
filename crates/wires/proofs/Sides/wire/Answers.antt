use mathlib.Core.Path.{◌≡◌, ◌∙◌, sym}
use mathlib.Core.Bool.{false, ◌||◌}
use Rattle.effect.specs.declared.Effect.TheVariants.{Pass}
use Rattle.effect.proofs.Finite.{equal-same}
use Rattle.wires.proofs.Crossing.{none, wire-triple}
use Rattle.wires.proofs.Sides.wire.Goals as goal
use Rattle.wires.proofs.Sides.wire.Goals.{Else-eq-2}

-- the test fails in each of its parts
passed : (c : Else-eq-2) → none c.args.self.interior c.args.self.exterior ≡ false
passed c =
    λ i.
    ((sym c.loops.ensures ∙ c.if-loops.false) i || (sym (equal-same c.args.self.interior Pass) ∙ sym c.eq.ensures ∙ c.if-eq.false) i)
    || (sym (equal-same c.args.self.exterior Pass) ∙ sym c.eq-else-eq.ensures ∙ c.if-eq-2.false) i

pub returns-then-inv : goal.returns-then-inv
returns-then-inv c =
    let at = goal.at.returns-then-inv c in
    wire-triple c.args.self.interior c.args.self.exterior c.args.inv c.args.fork c.if-inv.true
    c.output-output.ensures c.barrier-barrier.ensures c.input-input.ensures (passed at.Else-eq-2)

pub returns-else-inv : goal.returns-else-inv
returns-else-inv c =
    let at = goal.at.returns-else-inv c in
    wire-triple c.args.self.interior c.args.self.exterior c.args.inv c.args.fork c.if-inv.false
    c.output-output.ensures c.barrier-barrier.ensures c.input-input.ensures (passed at.Else-eq-2)
