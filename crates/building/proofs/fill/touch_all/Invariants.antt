use Rattle.std.proofs.Common.{◌≡◌}
use Rattle.image.specs.Loops.{each}
use Rattle.image.specs.View.{collect}
use Rattle.solve.specs.Tables.{effects_of}
use Rattle.building.specs.Fill.{join_touch}
use Rattle.building.specs.Tables.{touch_row}
use Rattle.building.proofs.fill.touch_all.Given as goal

abbrev pub invariant-loop-var : goal.invariant-loop-var
invariant-loop-var l =
    effects_of l.effects ≡ each (join_touch l.inv l.l.0) (collect (touch_row l.touches) 0 l.var-index) (effects_of l.initial.effects)
