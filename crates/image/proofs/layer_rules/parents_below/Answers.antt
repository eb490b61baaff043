use mathlib.Core.Path.{◌≡◌, ◌∙◌, sym, ap}
use mathlib.Core.Bool.{Bool, ◌||◌}
use Prim.Native.Nat.{ℕ}
use native.Mathlib.Omega.{arith}
use lib.Dec.{eqb, ltb}
use Rattle.records.specs.declared.Records.{Records}
use Rattle.records.proofs.Every.{every-zero, every-on, every_stop, every_end}
use Rattle.vir.specs.Ids.{none}
use Rattle.image.proofs.Fields.{parent_read}
use Rattle.image.proofs.Viewing.{length-layers}
use Rattle.image.proofs.layer_rules.parents_below.Invariants.{falls}
use Rattle.image.proofs.layer_rules.parents_below.Goals as goal
use Rattle.image.proofs.layer_rules.parents_below.Goals.{After-eq}

-- what the code tests is the layer's rule
tested : (c : After-eq) → falls c.args.records.now c.loop-l.l ≡ (c.eq.result || ltb c.nth-layer.result.parent.0 c.loop-l.l)
tested c =
    let r : Records = c.args.records.now in
    ap (λ (p : ℕ). eqb p none || ltb p c.loop-l.l) (parent_read r.bytes.now r.counts c.loop-l.l c.loop-l-test.true c.nth-layer.ensures)
    ∙ ap (λ (b : Bool). b || ltb c.nth-layer.result.parent.0 c.loop-l.l) (sym c.eq.ensures)

pub loop-l-init : goal.loop-l-init
loop-l-init c = every-zero _

pub returns-then-not-eq-layer : goal.returns-then-not-eq-layer
returns-then-not-eq-layer c =
    let r : Records = c.args.records.now in
    let at = goal.at.returns-then-not-eq-layer c in
    sym (every_stop (falls r) _ c.loop-l.l (omega (arith, length-layers r.bytes.now r.counts)) (tested at.After-eq ∙ c.if-not-eq-layer.true))

pub loop-l-preserved : goal.loop-l-preserved
loop-l-preserved c = every-on _ _ c.loop-l.invariant (tested (goal.at.loop-l-preserved c).After-eq ∙ c.if-not-eq-layer.false)

pub returns : goal.returns
returns c =
    let r : Records = c.args.records.now in
    let n = length-layers r.bytes.now r.counts in
    sym (every_end (falls r) _ c.loop-l.l (omega arith) (omega arith) c.loop-l.invariant)
