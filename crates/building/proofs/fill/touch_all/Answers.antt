use mathlib.Core.Path.{◌∙◌, ap, ap₂}
use Rattle.solve.specs.Tables.{effects_of}
use Rattle.analyzer.specs.Fill.{joined}
use Rattle.building.specs.Fill.{join_touch}
use Rattle.building.specs.Tables.{touch_row}
use Rattle.building.proofs.Filling.{rows_on, touch_passed, touch_joined}
use Rattle.building.proofs.fill.touch_all.Goals as goal
use Rattle.building.proofs.fill.touch_all.Goals.{then-of-l, else-of-l}

pub loop-var-preserved : goal.loop-var-preserved
loop-var-preserved c =
    let a = c.args in
    let k = c.loop-var.var-index in
    rows_on (join_touch a.inv a.l.0) (touch_row a.touches.now) k _ c.loop-var.invariant
    (elim c.if-of-l.branch [
      | then-of-l w ↦
          ap effects_of w.effects-is
          ∙ touch_joined a.inv a.l.0 (touch_row a.touches.now k) c.loop-var.effects w.if-of-l.true w.from.ensures
          (w.joined.ensures ∙ ap₂ (joined a.inv) w.effect_of.ensures w.effect_at.ensures)
      | else-of-l w ↦ ap effects_of w.effects-is ∙ touch_passed a.inv a.l.0 (touch_row a.touches.now k) c.loop-var.effects w.if-of-l.false
    ])
