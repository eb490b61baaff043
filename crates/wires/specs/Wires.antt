-- The wires as the code has them: what stands inside and outside of an interface that is come to, and a triple where there is one.
use Rattle.std.specs.Prelude.{true, false, List, ℕ, eqb, Option, Some, None}
use Rattle.effect.specs.declared.Effect.{Effect}
use Rattle.report.specs.Report.{Wire as Written, no_wire}
use Rattle.solve.specs.FixedPoint.{effect_at}
use Rattle.analyzer.specs.Build.{get_transfer}
use Rattle.wires.specs.declared.Sides.{Sides}
use Rattle.wires.specs.declared.Wire.{Wire}

-- the two sides of interface i, which is come to so often
abbrev pub sides_at : List Effect → ℕ → ℕ → Option Sides
sides_at es i incoming =
    elim (eqb incoming 0) [
      | true ↦ None
      | false ↦ Some (record { interior = effect_at es (get_transfer i).0; exterior = effect_at es (get_transfer i).1 })
    ]

-- the report's wire
abbrev pub written : Option Wire → Written
written None = no_wire
written (Some w) = record { present = true; first = w.0; second = w.1; third = w.2 }
