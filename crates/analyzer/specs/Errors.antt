-- analyzer.rs: `report_errors`, the diagnostics of one local.
use Rattle.std.specs.Prelude.{Bool, true, false, not, ◌&&◌, ◌||◌, List, [], ◌∷◌, ◌++◌, reverse, ℕ, eqb, get_or}
use Rattle.effect.specs.Effect.{read, barrier, write}
use Rattle.vir.specs.declared.consumer.Consumer.{Consumer}
use Rattle.vir.specs.declared.consumer.Consumer.TheVariants.{Missing, Unplaced, At}
use Rattle.vir.specs.Flags.{inv, fork, drop}
use Rattle.vir.specs.Ids.{none}
use Rattle.vir.specs.Invocation.{invocation_effect}
use Rattle.vir.specs.Step.{Invoked, invoke_of}
use Rattle.image.specs.LayerRules.{transfer_to}
use Rattle.image.specs.Loops.{each}
use Rattle.image.specs.Vir.{Action, Local, Stage}
use Rattle.report.specs.Report.{Diag, Wire, no_wire}

-- the Rust's `(bool, bool, bool, Option<Span>)`: what a step does to the local, and who does it
pub record Use : Type 0 where
  pub reads : Bool
  pub barriers : Bool
  pub writes : Bool
  pub by : Consumer

abbrev pub unused : Use
unused = record { reads = false; barriers = false; writes = false; by = Unplaced }

-- `let (i, o) = if info.inv.0 { (o, i) } else { (i, o) }`: a wire's ends, as the local goes
abbrev pub input_of : Bool → Wire → Bool
input_of true w = w.third
input_of false w = w.first

abbrev pub output_of : Bool → Wire → Bool
output_of true w = w.first
output_of false w = w.third

-- the span of a diagnostic: `span.unwrap_or(info.span)`, the local's own where none is known. Nothing is said at a Missing consumer's
abbrev pub span_or : ℕ → Consumer → ℕ
span_or span Missing = span
span_or span Unplaced = span
span_or span (At s) = s.0

abbrev pub is_missing : Consumer → Bool
is_missing Missing = true
is_missing Unplaced = false
is_missing (At s) = false

-- `if let Some(span) = consumer_span`: the span that is known of a consumer
abbrev pub span_of : Consumer → List ℕ
span_of Missing = []
span_of Unplaced = []
span_of (At s) = s.0 ∷ []

-- who takes the value, going through a stage, and what was said
pub record Errors : Type 0 where
  pub consumer : Consumer
  pub diags : List Diag

abbrev pub say : Bool → Diag → List Diag → List Diag
say true d ds = ds ++ (d ∷ [])
say false d ds = ds

module _ (l : ℕ) (info : Local) (wires : List Wire) where
  -- `diags.error`: CannotDrop 2, UninitializedVariable 3, CannotFork 4
  abbrev error : ℕ → Consumer → Diag
  error kind who = record { kind = kind; span = span_or info.span who; ty = info.ty; local = l }

  -- `invocation.effect(info.inv, true)`: the loose read, even beside an Inspect
  abbrev pub invoked : Invoked → Use
  invoked i =
      elim (eqb i.local l) [
        | true ↦
            let effect = invocation_effect i.invocation (inv info.flags) true in
            record { reads = read effect; barriers = barrier effect; writes = write effect; by = At (record { 0 = i.span }) }
        | false ↦ unused
      ]

  -- `let (i, b, o) = .. unwrap_or_default()`
  abbrev pub crossing : ℕ → Use
  crossing i =
      let wire = get_or wires i no_wire in
      record {
        reads = input_of (inv info.flags) wire;
        barriers = wire.second;
        writes = output_of (inv info.flags) wire;
        by = Unplaced;
      }

  -- the Rust's closure `effect`
  abbrev pub use_of : Action → Use
  use_of a = each (λ i u. crossing i) (transfer_to a.step) (each (λ i u. invoked i) (invoke_of a.step) unused)

  -- `for step in steps.clone().rev()`: the first that reads, unless a barrier or a write comes before it
  unfoldable pub first_reader : List Action → Consumer
  first_reader [] = Missing
  first_reader (a ∷ as') =
      let u = use_of a in
      elim u.reads [ true ↦ u.by | false ↦ elim (u.barriers || u.writes) [ true ↦ Missing | false ↦ first_reader as' ] ]

  -- `if write { .. }`
  abbrev pub on_write : Use → Errors → Errors
  on_write u e =
      elim u.writes [
        | true ↦ record { consumer = Missing; diags = say (is_missing e.consumer && not (drop info.flags)) (error 2 u.by) e.diags }
        | false ↦ e
      ]

  -- `if barrier { .. }`
  abbrev pub on_barrier : Use → Errors → Errors
  on_barrier u e =
      elim u.barriers [
        | true ↦ record { consumer = Missing; diags = say (not (is_missing e.consumer)) (error 3 e.consumer) e.diags }
        | false ↦ e
      ]

  -- ValueLaterUsedHere 5, a warning, has no type
  abbrev pub later : Consumer → List Diag → List Diag
  later who ds = each (λ span ds. ds ++ (record { kind = 5; span = span; ty = none; local = l } ∷ [])) (span_of who) ds

  -- `if read { .. }`
  abbrev pub on_read : Use → Errors → Errors
  on_read u e =
      elim u.reads [
        | true ↦
            record {
              consumer = u.by;
              diags =
                  elim (not (is_missing e.consumer) && not (fork info.flags)) [
                    | true ↦ later e.consumer (e.diags ++ (error 4 u.by ∷ []))
                    | false ↦ e.diags
                  ];
            }
        | false ↦ e
      ]

  -- the body of `for step in steps`
  abbrev pub on_step : Action → Errors → Errors
  on_step a e = on_read (use_of a) (on_barrier (use_of a) (on_write (use_of a) e))

  -- `if let Some((input, _)) = exterior`, behind the loop
  abbrev pub at_end : Wire → Errors → List Diag
  at_end w e =
      elim w.present [
        | true ↦
            elim (input_of (inv info.flags) w) [
              | true ↦ say (is_missing e.consumer && not (drop info.flags)) (error 2 Unplaced) e.diags
              | false ↦ say (not (is_missing e.consumer)) (error 3 e.consumer) e.diags
            ]
        | false ↦ e.diags
      ]

  -- `if info.inv.0 { Steps::Forward(steps) } else { Steps::Backward(steps.rev()) }`, and the other way round
  abbrev pub against : List Action → List Action
  against steps = elim (inv info.flags) [ true ↦ steps | false ↦ reverse steps ]

  abbrev pub along : List Action → List Action
  along steps = elim (inv info.flags) [ true ↦ reverse steps | false ↦ steps ]

  -- the consumer at the start: beyond the interface if its wire says so, else in the stage itself
  abbrev pub consumer_of : Wire → List Action → Consumer
  consumer_of w steps =
      elim w.present [
        | true ↦ elim (output_of (inv info.flags) w) [ true ↦ Unplaced | false ↦ Missing ]
        | false ↦ first_reader (along steps)
      ]

  -- one stage
  abbrev pub stage_errors : Stage → List Diag → List Diag
  stage_errors t ds =
      let wire = get_or wires t.interface no_wire in
      at_end wire (each on_step (against t.steps) (record { consumer = consumer_of wire t.steps; diags = ds }))

  -- `for stage in self.stages.values()`: those whose interface is come to
  abbrev pub report_errors : List ℕ → List Stage → List Diag
  report_errors incoming stages =
      each (λ t ds. elim (eqb (get_or incoming t.interface 0) 0) [ true ↦ ds | false ↦ stage_errors t ds ]) stages []
