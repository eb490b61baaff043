use mathlib.Core.Path.{◌∙◌, sym, ap}
use Rattle.image.specs.View.{view}
use Rattle.solve.specs.Tables.{effects_of}
use Rattle.building.specs.Fill.{exchange_at}
use Rattle.building.specs.Tables.{disconnect_row}
use Rattle.building.proofs.Filling.{rows_on, exchange_passed, exchange_done}
use Rattle.building.proofs.fill.exchange_all.Goals as goal
use Rattle.building.proofs.fill.exchange_all.Goals.{then-declares, else-declares}

pub loop-stage-preserved : goal.loop-stage-preserved
loop-stage-preserved c =
    let v = view c.args.image.now.records.bytes.now in
    let k = c.loop-stage.stage-index in
    let row = disconnect_row c.args.disconnects.now k in
    rows_on (exchange_at v c.args.l.0) (disconnect_row c.args.disconnects.now) k _ c.loop-stage.invariant
    (elim c.if-declares.branch [
      | then-declares w ↦
          ap effects_of w.effects-is
          ∙ exchange_done v c.args.l.0 row c.loop-stage.effects (sym c.declares.ensures ∙ w.if-declares.true) w.from.ensures w.from-then-declares.ensures
      | else-declares w ↦
          ap effects_of w.effects-is ∙ exchange_passed v c.args.l.0 row c.loop-stage.effects (sym c.declares.ensures ∙ w.if-declares.false)
    ])
