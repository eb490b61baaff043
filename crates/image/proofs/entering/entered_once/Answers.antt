use mathlib.Core.Path.{◌≡◌, ◌∙◌, sym, ap}
use mathlib.Core.Bool.{Bool, ◌||◌}
use Prim.Native.Nat.{ℕ}
use native.Mathlib.Omega.{arith}
use lib.Dec.{eqb}
use lib.ListN.{get_or}
use Rattle.records.specs.declared.Records.{Records}
use Rattle.records.proofs.Every.{every-zero, every-on, every_stop, every_end}
use Rattle.vir.specs.Ids.{none}
use Rattle.image.proofs.Fields.{parent_read}
use Rattle.image.proofs.Viewing.{length-layers}
use Rattle.image.proofs.entering.entered_once.Invariants.{once}
use Rattle.image.proofs.entering.entered_once.Goals as goal
use Rattle.image.proofs.entering.entered_once.Goals.{After-eq}

-- what the code tests is the layer's rule
tested : (c : After-eq)
    → once c.args.records.now c.args.counts.now c.loop-l.l ≡ (c.eq.result || eqb (get_or c.args.counts.now c.loop-l.l 0) 1)
tested c =
    let r : Records = c.args.records.now in
    let n : ℕ = get_or c.args.counts.now c.loop-l.l 0 in
    ap (λ (p : ℕ). eqb p none || eqb n 1) (parent_read r.bytes.now r.counts c.loop-l.l c.loop-l-test.true c.nth-layer.ensures)
    ∙ ap (λ (b : Bool). b || eqb n 1) (sym c.eq.ensures)

pub loop-l-init : goal.loop-l-init
loop-l-init c = every-zero _

pub loop-l-preserved : goal.loop-l-preserved
loop-l-preserved c = every-on _ _ c.loop-l.invariant (tested (goal.at.loop-l-preserved c).After-eq ∙ c.if-not-eq-n.false)

pub returns-then-not-eq-n : goal.returns-then-not-eq-n
returns-then-not-eq-n c =
    let r : Records = c.args.records.now in
    let at = goal.at.returns-then-not-eq-n c in
    sym (every_stop (once r c.args.counts.now) _ c.loop-l.l (omega (arith, length-layers r.bytes.now r.counts))
    (tested at.After-eq ∙ c.if-not-eq-n.true))

pub returns : goal.returns
returns c =
    let r : Records = c.args.records.now in
    let n = length-layers r.bytes.now r.counts in
    sym (every_end (once r c.args.counts.now) _ c.loop-l.l (omega arith) (omega arith) c.loop-l.invariant)
