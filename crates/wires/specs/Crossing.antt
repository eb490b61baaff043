-- set_wires at one interface, and at all of them.
use Rattle.std.specs.Prelude.{◌≡◌, Bool, true, false, not, ◌&&◌, ◌||◌, List, map, ℕ, eqb, take}
use Rattle.effect.specs.declared.Effect.{Effect}
use Rattle.effect.specs.declared.Effect.TheVariants.{Never}
use Rattle.report.specs.Report.{Wire, no_wire, half}
use Rattle.solve.specs.FixedPoint.{effect_at}
use Rattle.solve.specs.Tables.{effects_of}
use Rattle.analyzer.specs.Build.{get_transfer}
use Rattle.analyzer.specs.Wires.{is, wire_of, set_wires, loops}

-- the wire of interface i, which is come to so often
abbrev pub wire_at : Bool → Bool → List Effect → ℕ → ℕ → Wire
wire_at inv fork es i incoming =
    elim (eqb incoming 0) [
      | true ↦ no_wire
      | false ↦ wire_of inv fork (effect_at es (get_transfer i).0) (effect_at es (get_transfer i).1)
    ]

-- whether Never is inside or outside of it
abbrev pub loops_at : List Effect → ℕ → ℕ → Bool
loops_at es i incoming = not (eqb incoming 0) && (is (effect_at es (get_transfer i).0) Never || is (effect_at es (get_transfer i).1) Never)

-- the half byte of each interface, and whether Never was met at any that is come to
pub record Crossed (interfaces : ℕ) (incoming : List ℕ) (inv fork : Bool) (es ws : List ℕ) (r : Bool) : Type 0 where
  pub wires : take interfaces ws ≡ map half (set_wires inv fork (effects_of es) 0 (take interfaces incoming))
  pub loops : r ≡ loops (effects_of es) 0 (take interfaces incoming)
