-- normalizer.rs: `normalize_layer` and `normalize`.
use Rattle.std.specs.Prelude.{true, false, List, [], ◌∷◌, ◌++◌, map, ℕ, zero, suc, eqb, leb, length, get_or, set, replicate, None, Option, Some}
use Rattle.vir.specs.declared.header.Header.TheVariants.{Bare}
use Rattle.vir.specs.declared.interface.InterfaceKind.TheVariants.{Unconditional}
use Rattle.vir.specs.declared.invocation.Invocation.{Invocation}
use Rattle.vir.specs.declared.invocation.Invocation.TheVariants.{ReadBarrier, BarrierWrite}
use Rattle.vir.specs.declared.port.PortKind.TheVariants.{Wire}
use Rattle.vir.specs.declared.step.Step.{Step}
use Rattle.vir.specs.declared.step.Step.TheVariants.{Invoke, Transfer, Diverge, Link, Call, Const, Composite, Rewrap, Enum, Union, Ref, List as Listing, String, InlineIvy, BoolNot, BoolAnd}
use Rattle.vir.specs.Ids.{none, is_inverse, idx, inverse}
use Rattle.image.specs.LayerRules.{transfer_to}
use Rattle.image.specs.Loops.{each}
use Rattle.image.specs.Vir.{Action, Flex, Interface, Layer, Local, Port, Stage, Vir, layer_of, stage_of}
use Rattle.normalizer.specs.Divergence.{step_divergence, layer_divergence, sub_layer}
use Rattle.normalizer.specs.OpenWires.{Open, update_open_wires}
use Rattle.vir.specs.declared.ids.InterfaceId.{InterfaceId}

-- what the Rust's `Normalizer` changes. A stage's `Option` is the list of the stages put there, so that "set exactly once" can be said;
-- a final transfer has no data port, so it is its interface or none
pub record Normalizer : Type 0 where
  pub locals : List Local
  pub interfaces : List Interface
  pub stages : List (List Stage)
  pub final_transfers : List ℕ

-- the stage at work with its number, and the wires that are open
pub record Piece : Type 0 where
  pub normalizer : Normalizer
  pub id : ℕ
  pub stage : Stage
  pub open_wires : List Open

-- `self.stages[id] = Some(stage)`. (`stages` changes)
abbrev pub put_stage : ℕ → Stage → Normalizer → Normalizer
put_stage id t n = record {
  locals = n.locals;
  interfaces = n.interfaces;
  stages = set n.stages id (get_or n.stages id [] ++ (t ∷ []));
  final_transfers = n.final_transfers;
}

-- `self.final_transfers[layer] = Some(Transfer::unconditional(interface))`. (`final_transfers` changes)
abbrev pub set_final : ℕ → ℕ → Normalizer → Normalizer
set_final layer interface n = record {
  locals = n.locals;
  interfaces = n.interfaces;
  stages = n.stages;
  final_transfers = set n.final_transfers layer interface;
}

abbrev pub final_of : ℕ → Normalizer → ℕ
final_of layer n = get_or n.final_transfers layer none

-- `stage.steps.push(..)`. (`steps` changes)
abbrev pub push_step : Action → Stage → Stage
push_step a t = record {
  span = t.span;
  interface = t.interface;
  layer = t.layer;
  header = t.header;
  key = t.key;
  ports = t.ports;
  declarations = t.declarations;
  steps = t.steps ++ (a ∷ []);
  wires = t.wires;
  transfer = t.transfer;
  payload = t.payload;
}

-- `stage.declarations.push(local)`. (`declarations` changes)
abbrev pub declare : ℕ → Stage → Stage
declare l t = record {
  span = t.span;
  interface = t.interface;
  layer = t.layer;
  header = t.header;
  key = t.key;
  ports = t.ports;
  declarations = t.declarations ++ (l ∷ []);
  steps = t.steps;
  wires = t.wires;
  transfer = t.transfer;
  payload = t.payload;
}

-- the stage that a source's first piece starts as: its steps and its transfer are still to come
abbrev pub piece_of : Stage → Stage
piece_of source = record {
  span = source.span;
  interface = source.interface;
  layer = none;
  header = source.header;
  key = source.key;
  ports = source.ports;
  declarations = source.declarations;
  steps = [];
  wires = source.wires;
  transfer = none;
  payload = [];
}

-- a new stage: Bare, key 0, the source's span and wire counter
abbrev pub new_stage : Stage → ℕ → Stage
new_stage source interface = record {
  span = source.span;
  interface = interface;
  layer = none;
  header = Bare;
  key = 0;
  ports = [];
  declarations = [];
  steps = [];
  wires = source.wires;
  transfer = none;
  payload = [];
}

-- `self.stages.push(None)` and `self.interfaces.push(Interface::new(.., Unconditional(new_stage)))`. (`interfaces` and `stages` change)
abbrev pub push_piece : Normalizer → Normalizer
push_piece n = record {
  locals = n.locals;
  interfaces = n.interfaces ++ (record { layer = none; kind = Unconditional; key = 0; list = length n.stages ∷ [] } ∷ []);
  stages = n.stages ++ ([] ∷ []);
  final_transfers = n.final_transfers;
}

-- the flags of a type, as it is turned: what stands for `VirLocal::new` and its Finder
abbrev pub flags_of : List Flex → ℕ → ℕ
flags_of types ty =
    let flex = get_or types (idx ty) (record { upright = 0; inverted = 0 }) in
    elim (is_inverse ty) [ true ↦ flex.inverted | false ↦ flex.upright ]

-- `self.locals.push(..)`. (`locals` changes)
abbrev pub push_local : Local → Normalizer → Normalizer
push_local l n = record {
  locals = n.locals ++ (l ∷ []);
  interfaces = n.interfaces;
  stages = n.stages;
  final_transfers = n.final_transfers;
}

-- `local_barrier_write_to`, `local_read_barrier_to`
abbrev pub invoke_to : Invocation → ℕ → ℕ → ℕ → ℕ → Action
invoke_to i l span ty wire = record {
  step = Invoke (record { 0 = span }) (record { 0 = l }) i;
  ports = record { ty = ty; kind = Wire (record { 0 = span }) (record { 0 = wire }) } ∷ [];
}

-- while a stage is split: the normalizer, the old stage and the new one
pub record Split : Type 0 where
  pub normalizer : Normalizer
  pub old : Stage
  pub new : Stage

-- the body of `for (&wire, &(span, ty)) in &open_wires`: a new local is declared and written in the old stage, and read in the new one
abbrev pub carry : List Flex → Open → Split → Split
carry types o s =
    let l = length s.normalizer.locals in
    record {
      normalizer = push_local (record { span = o.span; ty = o.ty; flags = flags_of types o.ty }) s.normalizer;
      old = push_step (invoke_to BarrierWrite l o.span o.ty o.wire) (declare l s.old);
      new = push_step (invoke_to ReadBarrier l o.span (inverse o.ty) o.wire) s.new;
    }

-- `Step::Transfer(transfer)` of an interface, unless that is none
abbrev pub transfer_step : ℕ → List Port → List Action
transfer_step interface ports =
    elim (eqb interface none) [
      | true ↦ []
      | false ↦ record { step = Transfer (record { 0 = interface }); ports = ports } ∷ []
    ]

-- a Diverge's own transfer with its data port, or else its target's final one as then known
abbrev pub onward : Option InterfaceId → ℕ → List Port → Normalizer → List Action
onward (Some i) target ports n = transfer_step i.0 ports
onward None target ports n = transfer_step (final_of target n) []

-- what `match step` leaves of a step at which the stage is split: the normalizer, and what the old stage gets
pub record Jumped : Type 0 where
  pub normalizer : Normalizer
  pub steps : List Action

-- `match step`; `deep` is normalize_layer. No other step splits: its divergence is NONE
abbrev pub jump : Vir → (ℕ → Normalizer → Normalizer) → ℕ → Action → Step → Normalizer → Jumped
jump v deep interface a (Transfer i) n =
    record { normalizer = deep (sub_layer v i.0) (set_final (sub_layer v i.0) interface n); steps = a ∷ [] }
jump v deep interface a (Diverge l o) n = record { normalizer = n; steps = onward o l.0 a.ports n }
jump v deep interface a (Invoke span l i) n = record { normalizer = n; steps = [] }
jump v deep interface a (Link k) n = record { normalizer = n; steps = [] }
jump v deep interface a (Call k) n = record { normalizer = n; steps = [] }
jump v deep interface a (Const k) n = record { normalizer = n; steps = [] }
jump v deep interface a (Composite k) n = record { normalizer = n; steps = [] }
jump v deep interface a (Rewrap k) n = record { normalizer = n; steps = [] }
jump v deep interface a (Enum k) n = record { normalizer = n; steps = [] }
jump v deep interface a (Union k) n = record { normalizer = n; steps = [] }
jump v deep interface a (Ref k) n = record { normalizer = n; steps = [] }
jump v deep interface a (Listing k) n = record { normalizer = n; steps = [] }
jump v deep interface a (String k) n = record { normalizer = n; steps = [] }
jump v deep interface a (InlineIvy k) n = record { normalizer = n; steps = [] }
jump v deep interface a (BoolNot k) n = record { normalizer = n; steps = [] }
jump v deep interface a (BoolAnd k) n = record { normalizer = n; steps = [] }

-- `stage.steps.push` for each of a list
abbrev pub push_steps : List Action → Stage → Stage
push_steps as' t = each push_step as' t

-- a step's own ports before the test. (`open_wires` changes)
abbrev pub opened : Action → Piece → Piece
opened a p =
    record { normalizer = p.normalizer; id = p.id; stage = p.stage; open_wires = each update_open_wires a.ports p.open_wires }

-- behind the loop: the stage's own transfer with its data port, else the layer's final one, if any
abbrev pub ended : Stage → ℕ → Piece → Normalizer
ended source layer p =
    put_stage p.id
    (push_steps
    (elim (eqb source.transfer none) [
      | true ↦ transfer_step (final_of layer p.normalizer) []
      | false ↦ transfer_step source.transfer source.payload
    ])
    p.stage)
    p.normalizer

module _ (v : Vir) (deep : ℕ → Normalizer → Normalizer) (source : Stage) where
  -- `if self.step_divergence(step) <= layer.id`: the old stage is finished, and the new one goes on with the same open wires
  abbrev pub split_at : Action → Piece → Piece
  split_at a p =
      let new = length p.normalizer.stages in
      let interface = length p.normalizer.interfaces in
      finished new
      (jumped interface
      (each (carry v.types) p.open_wires
      (record { normalizer = push_piece p.normalizer; old = p.stage; new = new_stage source interface })))
    where
      finished : ℕ → Split → Piece
      finished new s =
          record { normalizer = put_stage p.id s.old s.normalizer; id = new; stage = s.new; open_wires = p.open_wires }

      with_steps : Split → Jumped → Split
      with_steps s j = record { normalizer = j.normalizer; old = push_steps j.steps s.old; new = s.new }

      jumped : ℕ → Split → Split
      jumped interface s = with_steps s (jump v deep interface a a.step s.normalizer)

  -- `else`: a Transfer into a layer with a parent normalises that layer first
  abbrev pub go_on : Action → Piece → Piece
  go_on a p =
      record {
        normalizer =
            each
            (λ i n. elim (eqb (layer_of v (sub_layer v i)).parent none) [ true ↦ n | false ↦ deep (sub_layer v i) n ])
            (transfer_to a.step)
            p.normalizer;
        id = p.id;
        stage = push_step a p.stage;
        open_wires = p.open_wires;
      }

  -- the body of `for step in &source.steps`
  abbrev pub stepped : ℕ → Action → Piece → Piece
  stepped layer a p =
      elim (leb (step_divergence (layer_divergence (length v.layers) v) v a.step) layer) [
        | true ↦ split_at a (opened a p)
        | false ↦ go_on a (opened a p)
      ]

  -- the body of `for &stage in &layer.stages`
  abbrev pub normalize_stage : ℕ → ℕ → Normalizer → Normalizer
  normalize_stage layer t n =
      ended source layer
      (each (stepped layer) source.steps
      (record { normalizer = n; id = t; stage = piece_of source; open_wires = each update_open_wires source.ports [] }))

-- `normalize_layer`. A call falls to a layer of a higher number: `normalize-enough` says that as much fuel as there are layers is enough
unfoldable pub normalize_layer : ℕ → Vir → ℕ → Normalizer → Normalizer
normalize_layer zero v layer n = n
normalize_layer (suc k) v layer n =
    each (λ t n. normalize_stage v (normalize_layer k v) (stage_of v t) layer t n) (layer_of v layer).stages n

-- `for layer in source.layers.values()`: those without a parent, from l on
unfoldable pub roots : Vir → ℕ → List Layer → Normalizer → Normalizer
roots v l [] n = n
roots v l (layer ∷ layers) n =
    roots v (suc l) layers
    (elim (eqb layer.parent none) [ true ↦ normalize_layer (length v.layers) v l n | false ↦ n ])

abbrev pub begun : Vir → Normalizer
begun v = record {
  locals = v.locals;
  interfaces = v.interfaces;
  stages = replicate (length v.stages) [];
  final_transfers = replicate (length v.layers) none;
}

unfoldable pub normalizer_of : Vir → Normalizer
normalizer_of v = roots v 0 v.layers (begun v)

-- `unwrap_idx_vec`: `set_once` says that each list has one stage
abbrev pub unwrap : List Stage → Stage
unwrap ts = get_or ts 0 (new_stage (stage_of (record { layers = []; interfaces = []; stages = []; locals = []; types = [] }) 0) none)

unfoldable pub normalize : Vir → Vir
normalize v = record {
  layers = [];
  interfaces = (normalizer_of v).interfaces;
  stages = map unwrap (normalizer_of v).stages;
  locals = (normalizer_of v).locals;
  types = v.types;
}
