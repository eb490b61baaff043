use Rattle.std.proofs.Common.{◌≡◌}
use Rattle.image.specs.Loops.{each}
use Rattle.image.specs.View.{collect, view}
use Rattle.solve.specs.Tables.{effects_of}
use Rattle.building.specs.Fill.{exchange_at}
use Rattle.building.specs.Tables.{disconnect_row}
use Rattle.building.proofs.fill.exchange_all.Given as goal

abbrev pub invariant-loop-stage : goal.invariant-loop-stage
invariant-loop-stage l =
    effects_of l.effects
    ≡ each (exchange_at (view l.image.records.bytes.now) l.l.0) (collect (disconnect_row l.disconnects) 0 l.stage-index) (effects_of l.initial.effects)
