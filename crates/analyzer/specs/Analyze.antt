-- analyzer.rs: `process_local` and `analyze`; and what a call of analyse answers.
use Rattle.std.specs.Prelude.{Bool, true, false, not, ◌&&◌, ◌||◌, List, [], ◌∷◌, ◌++◌, map, ℕ, ◌+◌, eqb, length, get_or}
use Rattle.effect.specs.declared.Effect.{Effect}
use Rattle.vir.specs.Flags.{inv, fork, self_inverse}
use Rattle.vir.specs.Ids.{none}
use Rattle.image.specs.Loops.{each}
use Rattle.image.specs.View.{collect}
use Rattle.image.specs.Vir.{Stage, Vir}
use Rattle.report.specs.Report.{Diag, Report, Wire, no_wire}
use Rattle.solve.specs.FixedPoint.{State, fixed_point}
use Rattle.analyzer.specs.Build.{Network, build, local_of}
use Rattle.analyzer.specs.Errors.{report_errors}
use Rattle.analyzer.specs.Fill.{contains, fill_segments}
use Rattle.analyzer.specs.Sweep.{incoming_of}
use Rattle.analyzer.specs.Wires.{set_wires, loops}

-- everything that is said of one local, but for InfiniteLoop's "at most once a call"
pub record Answers : Type 0 where
  pub takes : ℕ
  pub evaluations : ℕ
  pub effects : List Effect
  -- one for each interface
  pub wires : List Wire
  pub loops : Bool
  pub diags : List Diag

-- from the effects at the end on
abbrev pub answers_from : Vir → List ℕ → ℕ → State → Answers
answers_from v incoming l s =
    let info = local_of v l in
    let wires = set_wires (inv info.flags) (fork info.flags) s.effects 0 incoming in
    record {
      takes = s.takes;
      evaluations = s.evaluations;
      effects = s.effects;
      wires = wires;
      loops = loops s.effects 0 incoming;
      diags = report_errors l info wires incoming v.stages;
    }

-- `process_local`, on a network that serves every local
unfoldable pub process_local : Vir → List ℕ → Network → ℕ → Answers
process_local v incoming n l =
    let inverse = inv (local_of v l).flags in
    answers_from v incoming l (fixed_point inverse n.relations (fill_segments v n inverse l))

-- everything about one local, from the image and the local alone
unfoldable pub answers_for : Vir → ℕ → Answers
answers_for v l = process_local v (incoming_of v) (build v (incoming_of v)) l

-- declared in a stage whose interface is come to
unfoldable pub declared : List ℕ → ℕ → List Stage → Bool
declared incoming l [] = false
declared incoming l (t ∷ ts) = not (eqb (get_or incoming t.interface 0) 0) && contains t.declarations l || declared incoming l ts

-- document 01: declared so, and not self_inverse
abbrev pub processed : Vir → List ℕ → ℕ → Bool
processed v incoming l = declared incoming l v.stages && not (self_inverse (local_of v l).flags)

-- a local and what is said of it; nothing of one that is not processed
pub record Column : Type 0 where
  pub local : ℕ
  pub answers : List Answers

-- the locals in number order (the Rust's map has an order of its own)
abbrev pub columns : Vir → List ℕ → Network → List Column
columns v incoming n =
    collect
    (λ l. record { local = l; answers = elim (processed v incoming l) [ true ↦ process_local v incoming n l ∷ [] | false ↦ [] ] })
    0
    (length v.locals)

-- the half of an interface and a local: none for a local that is not processed
abbrev pub wire_in : ℕ → List Answers → Wire
wire_in i [] = no_wire
wire_in i (a ∷ as') = get_or a.wires i no_wire

abbrev pub rows : List Column → ℕ → List (List Wire)
rows cs n = collect (λ i. map (λ c. wire_in i c.answers) cs) 0 n

-- InfiniteLoop has the call's span and the local then processed
abbrev pub InfiniteLoop : ℕ → ℕ → Diag
InfiniteLoop span l = record { kind = 1; span = span; ty = none; local = l }

-- `self.infinite_loop`, the sums of the counters, and every diagnostic so far
pub record Sums : Type 0 where
  pub infinite_loop : Bool
  pub takes : ℕ
  pub evaluations : ℕ
  pub diags : List Diag

-- `set_wires` says InfiniteLoop before `report_errors` says the rest; at most once a call
abbrev pub add_answers : ℕ → ℕ → Answers → Sums → Sums
add_answers span l a s =
    record {
      infinite_loop = s.infinite_loop || a.loops;
      takes = s.takes + a.takes;
      evaluations = s.evaluations + a.evaluations;
      diags = s.diags ++ elim (a.loops && not s.infinite_loop) [ true ↦ InfiniteLoop span l ∷ [] | false ↦ [] ] ++ a.diags;
    }

abbrev pub sums_of : ℕ → List Column → Sums
sums_of span cs =
    each (λ c s. each (λ a s. add_answers span c.local a s) c.answers s) cs
    (record { infinite_loop = false; takes = 0; evaluations = 0; diags = [] })

abbrev pub report_of : ℕ → Vir → List ℕ → List Column → Report
report_of span v incoming cs =
    let sums = sums_of span cs in
    record {
      locals = length v.locals;
      takes = sums.takes;
      evaluations = sums.evaluations;
      incoming = incoming;
      wires = rows cs (length v.interfaces);
      diags = sums.diags;
    }

-- `analyze`, with the call's span
unfoldable pub analyze : ℕ → Vir → Report
analyze span v =
    let incoming = incoming_of v in
    report_of span v incoming (columns v incoming (build v incoming))
