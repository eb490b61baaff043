-- Demand 3, for one local of a flat image: its effects are the least ones, the wires are those that they give, and the counts are the worklist's.
use Rattle.std.specs.Prelude.{◌≡◌, Bool, true, false, List, ℕ, ◌<◌, ◌≤◌, eqb, length, get_or}
use Rattle.effect.specs.declared.Effect.{Effect}
use Rattle.vir.specs.Flags.{inv, fork}
use Rattle.image.specs.Vir.{Vir}
use Rattle.report.specs.Report.{Wire, no_wire}
use Rattle.solve.specs.FixedPoint.{State, effect_at, dependents, start, run, fixed_point, taken_by}
use Rattle.solve.specs.Least.{Least, Four, Steps, Enough, WaitsWithin}
use Rattle.analyzer.specs.Analyze.{answers_for}
use Rattle.analyzer.specs.Build.{Network, build, get_transfer, local_of}
use Rattle.analyzer.specs.Fill.{fill_segments}
use Rattle.analyzer.specs.Marks.{Apart}
use Rattle.analyzer.specs.Sizes.{Sizes}
use Rattle.analyzer.specs.Sweep.{incoming_of}
use Rattle.analyzer.specs.Wires.{wire_of}

abbrev pub network_of : Vir → Network
network_of v = build v (incoming_of v)

abbrev pub inverse_of : Vir → ℕ → Bool
inverse_of v l = inv (local_of v l).flags

abbrev pub seeds_of : Vir → ℕ → List Effect
seeds_of v l = fill_segments v (network_of v) (inverse_of v l) l

-- an assignment of effects that is the least for the local
abbrev pub LeastFor : Vir → ℕ → (ℕ → Effect) → Type 0
LeastFor v l f = Least (inverse_of v l) (network_of v).relations (seeds_of v l) f

-- the wire that an assignment of effects gives at an interface: none where it is not come to
abbrev pub wire_by : Vir → ℕ → (ℕ → Effect) → ℕ → Wire
wire_by v l f i =
    elim (eqb (get_or (incoming_of v) i 0) 0) [
      | true ↦ no_wire
      | false ↦ wire_of (inverse_of v l) (fork (local_of v l).flags) (f (get_transfer i).0) (f (get_transfer i).1)
    ]

-- the machine's state after k takes
abbrev pub after : Vir → ℕ → ℕ → State
after v l k =
    run k (inverse_of v l) (dependents (network_of v).relations 0 (length (seeds_of v l))) (start (seeds_of v l))

pub record Demand (v : Vir) (l : ℕ) : Type 0 where
  -- the effects at the end are the least ones in union order
  pub least : LeastFor v l (effect_at (answers_for v l).effects)
  -- the wires are those that any least effects give, so they do not rest on the worklist's order
  pub wires : (f : ℕ → Effect) → LeastFor v l f → (i : ℕ) → i < length v.interfaces → get_or (answers_for v l).wires i no_wire ≡ wire_by v l f i
  -- no variable is taken more than four times
  pub four : Four (inverse_of v l) (network_of v).relations (seeds_of v l)
  -- the reported takes and evaluations are the steps that the worklist needs until it is empty; more fuel changes nothing
  pub steps : Steps (inverse_of v l) (network_of v).relations (seeds_of v l)
  pub takes : (answers_for v l).takes ≡ length (taken_by (inverse_of v l) (network_of v).relations (seeds_of v l))
  pub evaluations : (answers_for v l).evaluations ≡ (fixed_point (inverse_of v l) (network_of v).relations (seeds_of v l)).evaluations
  pub enough : Enough (inverse_of v l) (network_of v).relations (seeds_of v l)
  -- at most 7,937 variables and 7,424 relations, the seeded ones all different; at most four entries wait for each variable, 31,748 in all, also while entries are handed out
  pub sizes : Sizes (network_of v)
  pub marks : Apart (network_of v)
  pub waits : (k : ℕ) → length (after v l k).dirty ≤ 31748
  pub within : WaitsWithin (inverse_of v l) (network_of v).relations (seeds_of v l)
