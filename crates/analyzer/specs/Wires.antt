-- analyzer.rs: `set_wires`, what crosses each interface for one local.
use Rattle.std.specs.Prelude.{Bool, true, false, not, ◌&&◌, ◌||◌, List, [], ◌∷◌, ℕ, suc, eqb}
use Rattle.effect.specs.declared.Effect.{Effect}
use Rattle.effect.specs.declared.Effect.TheVariants.{Pass, Never}
use Rattle.effect.specs.Effect.{number_of, read, pass, barrier, write}
use Rattle.report.specs.Report.{Wire, no_wire}
use Rattle.solve.specs.FixedPoint.{effect_at}
use Rattle.analyzer.specs.Build.{get_transfer}

abbrev pub is : Effect → Effect → Bool
is a b = eqb (number_of a) (number_of b)

-- `let output = ..` and `let input = ..`
abbrev pub output : Bool → Effect → Effect → Bool
output fork interior exterior = (write interior || not fork && read interior) && read exterior

abbrev pub input : Bool → Effect → Effect → Bool
input fork interior exterior = write exterior && (read interior || output fork interior exterior && pass interior)

-- `if inv.0 { (output, barrier, input) } else { (input, barrier, output) }`
abbrev pub triple : Bool → Bool → Bool → Bool → Wire
triple true input barrier output = record { present = true; first = output; second = barrier; third = input }
triple false input barrier output = record { present = true; first = input; second = barrier; third = output }

-- no wire where Never is inside or outside, nor where nothing but Pass is
abbrev pub wire_of : Bool → Bool → Effect → Effect → Wire
wire_of inv fork interior exterior =
    elim (is interior Never || is exterior Never || is interior Pass || is exterior Pass) [
      | true ↦ no_wire
      | false ↦ triple inv (input fork interior exterior) (barrier interior) (output fork interior exterior)
    ]

-- the wire of each interface from i on; none at one that is not come to
unfoldable pub set_wires : Bool → Bool → List Effect → ℕ → List ℕ → List Wire
set_wires inv fork es i [] = []
set_wires inv fork es i (incoming ∷ more) =
    elim (eqb incoming 0) [
      | true ↦ no_wire
      | false ↦ wire_of inv fork (effect_at es (get_transfer i).0) (effect_at es (get_transfer i).1)
    ] ∷
    set_wires inv fork es (suc i) more

-- whether Never is inside or outside of an interface that is come to: what InfiniteLoop says
unfoldable pub loops : List Effect → ℕ → List ℕ → Bool
loops es i [] = false
loops es i (incoming ∷ more) =
    not (eqb incoming 0) && (is (effect_at es (get_transfer i).0) Never || is (effect_at es (get_transfer i).1) Never)
    || loops es (suc i) more
