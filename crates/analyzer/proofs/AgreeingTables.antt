-- set_wires and report_errors are the Rust's in every case of the tables RustWires and RustErrors, by computing.
use mathlib.Core.Path.{◌≡◌, refl}
use mathlib.Core.Bool.{Bool, true, false}
use mathlib.Core.List.{List, [], ◌∷◌, ◌++◌, map}
use Prim.Native.Nat.{ℕ, suc, ◌+◌, ◌*◌}
use lib.ListN.{get_or}
use Rattle.effect.specs.declared.Effect.{Effect}
use Rattle.effect.specs.declared.Effect.TheVariants.{Pass}
use Rattle.effect.specs.Effect.{effects, read, pass, barrier, write}
use Rattle.vir.specs.declared.header.Header.TheVariants.{Bare}
use Rattle.vir.specs.declared.invocation.Invocation.{Invocation}
use Rattle.vir.specs.declared.invocation.Invocation.TheVariants.{Barrier, Read, Write, ReadBarrier, BarrierWrite, ReadWrite}
use Rattle.vir.specs.declared.step.Step.{Step}
use Rattle.vir.specs.declared.step.Step.TheVariants.{Invoke, Transfer, Link}
use Rattle.vir.specs.Ids.{none}
use Rattle.image.specs.Kind.{concat}
use Rattle.image.specs.Loops.{each}
use Rattle.image.specs.Vir.{Action, Stage}
use Rattle.report.specs.Report.{Wire, no_wire, bit, half}
use Rattle.analyzer.specs.Errors.{first_reader, report_errors}
use Rattle.analyzer.specs.RustErrors.{rust_one_step, rust_two_steps}
use Rattle.analyzer.specs.RustWires.{rust_wires}
use Rattle.analyzer.specs.Wires.{set_wires, loops}

-- interface 0, come to once, with these effects inside and outside
unfoldable pub wire : Bool → Bool → Effect → Effect → ℕ
unfolding set_wires loops read pass barrier write
wire inv fork interior exterior =
    let es = Pass ∷ interior ∷ exterior ∷ [] in
    half (get_or (set_wires inv fork es 0 (1 ∷ [])) 0 no_wire) + 16 * bit (loops es 0 (1 ∷ []))

abbrev pub wires_of : Bool → Bool → List (List ℕ)
wires_of inv fork = map (λ interior. map (wire inv fork interior) effects) effects

pub wires_agree : wires_of false false ++ wires_of false true ++ wires_of true false ++ wires_of true true ≡ rust_wires
unfolding wire rust_wires
wires_agree = refl

-- a step by its place, and the wire at the interface whose number is the place
pub record Act : Type 0 where
  pub step : ℕ → Step
  pub wire : Wire

abbrev pub invokes : ℕ → Invocation → Act
invokes l i = record { step = λ n. Invoke (record { 0 = n }) (record { 0 = l }) i; wire = no_wire }

abbrev pub transfers : Wire → Act
transfers w = record { step = λ n. Transfer (record { 0 = n }); wire = w }

abbrev pub links : Act
links = record { step = λ n. Link 0; wire = no_wire }

abbrev pub triple : Bool → Bool → Bool → Wire
triple first second third = record { present = true; first = first; second = second; third = third }

-- by their numbers
abbrev pub triples : List Wire
triples =
    triple false false false ∷ triple true false false ∷ triple false true false ∷ triple true true false ∷
    triple false false true ∷ triple true false true ∷ triple false true true ∷ triple true true true ∷ []

abbrev pub flags : List ℕ
flags = 0 ∷ 1 ∷ 2 ∷ 3 ∷ 4 ∷ 5 ∷ 6 ∷ 7 ∷ []

abbrev pub placed : ℕ → List Act → List Action
placed n [] = []
placed n (a ∷ as') = record { step = a.step n; ports = [] } ∷ placed (suc n) as'

abbrev pub stage_of : List Act → Stage
stage_of acts =
    record {
      span = 0;
      interface = 0;
      layer = none;
      header = Bare;
      key = 0;
      ports = [];
      declarations = [];
      steps = placed 1 acts;
      wires = 0;
      transfer = none;
      payload = [];
    }

-- kind and span of each diagnostic, for local 0 with these flags and this wire at the interface of the stage
unfoldable pub said : ℕ → Wire → List Act → ℕ
unfolding first_reader each read barrier write
said flags w acts =
    let diags =
    report_errors 0 (record { span = 9; ty = 0; flags = flags }) (w ∷ map (λ a. a.wire) acts) (1 ∷ []) (stage_of acts ∷ []) in
    each (λ d n. 100 * n + 10 * d.kind + d.span) diags 0

abbrev pub acts : List Act
acts =
    invokes 0 Barrier ∷ invokes 0 Read ∷ invokes 0 Write ∷ invokes 0 ReadBarrier ∷ invokes 0 BarrierWrite ∷ invokes 0 ReadWrite ∷
    invokes 1 ReadWrite ∷
    map transfers (no_wire ∷ triples) ++ (links ∷ [])

pub one_step_agrees : concat (λ f. map (λ w. map (λ a. said f w (a ∷ [])) acts) (no_wire ∷ triples)) flags ≡ rust_one_step
unfolding said concat rust_one_step
one_step_agrees = refl

abbrev pub pair_acts : List Act
pair_acts =
    invokes 0 Barrier ∷ invokes 0 Read ∷ invokes 0 Write ∷ invokes 1 ReadWrite ∷
    transfers (triple true false false) ∷ transfers (triple false false true) ∷ []

abbrev pub pair_wires : List Wire
pair_wires = no_wire ∷ triple false false false ∷ triple true true true ∷ []

pub two_steps_agree :
    concat (λ f. concat (λ w. map (λ a. map (λ b. said f w (a ∷ b ∷ [])) pair_acts) pair_acts) pair_wires) flags ≡ rust_two_steps
unfolding said concat rust_two_steps
two_steps_agree = refl
