use Rattle.std.proofs.Common.{◌≡◌, ◌∙◌, sym, ap, eqb}
use Rattle.std.proofs.lemmas.Bool.{not-true, not-false}
use Rattle.std.specs.Prelude.{ℕ}
use native.Mathlib.Omega.{arith}
use Rattle.vir.specs.Ids.{none}
use Rattle.records.specs.declared.record.StageRecord.{StageRecord}
use Rattle.records.proofs.Every.{every-zero, every-on, every_stop, every_end}
use Rattle.image.proofs.Fields.{transfer-at}
use Rattle.image.proofs.Viewing.{length-stages}
use Rattle.image.proofs.kind.transfers_none.Invariants.{stays}
use Rattle.image.proofs.kind.transfers_none.Goals as goal
use Rattle.image.proofs.kind.transfers_none.Goals.{After-ne}

-- the test, as the view has it
tested : (c : After-ne) → eqb c.nth-stage.result.transfer.0 none ≡ stays c.args.records.now c.loop-t.t
tested c =
    let records = c.args.records.now in
    ap (λ (x : ℕ). eqb x none)
    (ap (λ (x : StageRecord). x.transfer.0) c.nth-stage.ensures
    ∙ sym (transfer-at records.bytes.now records.counts c.loop-t.t c.loop-t-test.true))

pub loop-t-init : goal.loop-t-init
loop-t-init c = every-zero _

pub returns-then-ne : goal.returns-then-ne
returns-then-ne c =
    let records = c.args.records.now in
    let test = tested (goal.at.returns-then-ne c).After-ne in
    sym (every_stop (stays records) _ c.loop-t.t (omega (arith, c.loop-t-test.true, length-stages records.bytes.now records.counts))
    (sym test ∙ not-true _ (sym c.ne.ensures ∙ c.if-ne.true)))

pub loop-t-preserved : goal.loop-t-preserved
loop-t-preserved c =
    let test = tested (goal.at.loop-t-preserved c).After-ne in
    every-on (stays c.args.records.now) c.loop-t.t c.loop-t.invariant (sym test ∙ not-false _ (sym c.ne.ensures ∙ c.if-ne.false))

pub returns : goal.returns
returns c =
    let records = c.args.records.now in
    let all = length-stages records.bytes.now records.counts in
    sym (every_end (stays records) _ c.loop-t.t (omega (arith, all, c.loop-t-test.false)) (omega (arith, all, c.loop-t.auto.t-end)) c.loop-t.invariant)
