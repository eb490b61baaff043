-- What a record that is not at fault shows of its fields, and of the running places behind it.
use Rattle.std.specs.Prelude.{Some}
use mathlib.Core.Path.{◌≡◌, sym, ap}
use mathlib.Core.Bool.{Bool, true, ◌&&◌, ◌||◌}
use mathlib.Core.List.{List}
use Prim.Native.Nat.{ℕ, ◌+◌, ◌≤◌}
use lib.Dec.{eqb, ltb, leb}
use borrow.Author.Tests.{eqb-true}
use Rattle.vir.specs.Header.{header_of, header_number}
use Rattle.vir.specs.Interface.{kind_of, kind_number}
use Rattle.vir.specs.Port.{port_of, port_number}
use Rattle.vir.specs.Step.{step_of, step_tag}
use Rattle.records.specs.declared.layout.Counts.{Counts}
use Rattle.records.specs.declared.layout.Section.TheVariants.{Layers, Interfaces, Stages, Locals, Types, Steps, Ports}
use Rattle.records.specs.declared.record.LayerRecord.{LayerRecord}
use Rattle.records.specs.declared.record.InterfaceRecord.{InterfaceRecord}
use Rattle.records.specs.declared.record.StageRecord.{StageRecord}
use Rattle.records.specs.declared.record.StepRecord.{StepRecord}
use Rattle.records.specs.declared.record.PortRecord.{PortRecord}
use Rattle.records.specs.declared.running.Running.{Running}
use Rattle.image.specs.Encode.{step_a, step_b, port_a, port_b}
use Rattle.rules.specs.Faults.{or_none, laid, ports_laid, type_named, refs_below, layer_fields, layer_good, kind_lists, entries_named, interface_fields, interface_good, header_has, transfer_good, stage_named, stage_lists, stage_fields, stage_good, local_good, type_good, step_has, step_named, step_good, port_good}
use Rattle.judging.specs.Judge.{judge}
use Rattle.records.specs.Records.{layer_at, interface_at, stage_at, local_at, type_at, step_at, port_at}
use Rattle.image.specs.View.{kind_in, header_in, step_in, port_in}
use Rattle.image.proofs.Clean.{passed, moved}
use Rattle.rules.proofs.Fits.{laid-first}
use Rattle.records.proofs.Guards.{left_true, right_true}
use Rattle.image.proofs.Tags.{kind_back, header_back, step_back, step_fields_lem, port_fields}

pub record LayerTurn (r r' : Running) (l : LayerRecord) : Type 0 where
  pub first : l.stages.first ≡ r.refs
  pub refs : r.refs + l.stages.count ≡ r'.refs
  pub steps : r'.steps ≡ r.steps
  pub ports : r'.ports ≡ r.ports

pub record InterfaceTurn (r r' : Running) (i : InterfaceRecord) : Type 0 where
  pub kind : i.kind ≡ kind_number (kind_in (kind_of i.kind))
  pub first : i.list.first ≡ r.refs
  pub refs : r.refs + i.list.count ≡ r'.refs
  pub steps : r'.steps ≡ r.steps
  pub ports : r'.ports ≡ r.ports

pub record StageTurn (r r' : Running) (t : StageRecord) : Type 0 where
  pub header : t.header ≡ header_number (header_in (header_of t.header))
  pub ports-first : t.ports.first ≡ r.ports
  pub steps_first : t.steps.first ≡ r.steps
  pub refs-first : t.declarations.first ≡ r.refs
  pub refs : r.refs + t.declarations.count ≡ r'.refs
  pub steps : r.steps + t.steps.count ≡ r'.steps
  pub ports : r.ports + t.ports.count + t.payload ≡ r'.ports

pub record StepTurn (r r' : Running) (t : StepRecord) : Type 0 where
  pub tag : t.tag ≡ step_tag (step_in (step_of t.tag t.a t.b))
  pub a : t.a ≡ step_a (step_in (step_of t.tag t.a t.b))
  pub b : t.b ≡ step_b (step_in (step_of t.tag t.a t.b))
  pub first : t.ports.first ≡ r.ports
  pub ports : r.ports + t.ports.count ≡ r'.ports
  pub refs : r'.refs ≡ r.refs
  pub steps : r'.steps ≡ r.steps

pub record PortTurn (r r' : Running) (p : PortRecord) : Type 0 where
  pub kind : p.kind ≡ port_number (port_in (port_of p.kind p.a p.b))
  pub a : p.a ≡ port_a (port_in (port_of p.kind p.a p.b))
  pub b : p.b ≡ port_b (port_in (port_of p.kind p.a p.b))
  pub same : r ≡ r'

module _ (s : List ℕ) (c : Counts) (p : ℕ) (r r' : Running) where
  pub layer-turn : judge Layers s c p r ≡ Some r' → LayerTurn r r' (layer_at s p)
  unfolding layer_good
  layer-turn j =
      let l : LayerRecord = layer_at s p in
      let next = moved (layer_good s c r l) _ j in
      let fields : layer_fields c r l ≡ true = left_true _ (refs_below s c l.stages c.stages) (passed (layer_good s c r l) _ j) in
      record {
        first = laid-first r.refs c.refs l.stages (right_true (or_none c.layers l.parent.0) _ fields);
        refs = ap (λ (q : Running). q.refs) next;
        steps = sym (ap (λ (q : Running). q.steps) next);
        ports = sym (ap (λ (q : Running). q.ports) next);
      }

  pub interface-turn : judge Interfaces s c p r ≡ Some r' → InterfaceTurn r r' (interface_at s p)
  unfolding interface_good
  interface-turn j =
      let i : InterfaceRecord = interface_at s p in
      let next = moved (interface_good s c r i) _ j in
      let lists : Bool = kind_lists (kind_of i.kind) i.list.count in
      let keyed : Bool = eqb i.kind 2 || eqb i.key 0 in
      let fields : interface_fields c r i ≡ true = left_true _ (entries_named s c i) (passed (interface_good s c r i) _ j) in
      record {
        kind = kind_back i.kind i.list.count (left_true lists keyed (left_true (lists && keyed) (laid r.refs c.refs i.list) fields));
        first = laid-first r.refs c.refs i.list (right_true (lists && keyed) _ fields);
        refs = ap (λ (q : Running). q.refs) next;
        steps = sym (ap (λ (q : Running). q.steps) next);
        ports = sym (ap (λ (q : Running). q.ports) next);
      }

  pub stage-turn : judge Stages s c p r ≡ Some r' → StageTurn r r' (stage_at s p)
  unfolding stage_good
  stage-turn j =
      let t : StageRecord = stage_at s p in
      let next = moved (stage_good s c r t) _ j in
      let fields : stage_fields c r t ≡ true = left_true _ (refs_below s c t.declarations c.locals) (passed (stage_good s c r t) _ j) in
      let named : stage_named c t ≡ true = left_true (stage_named c t) (stage_lists c r t) fields in
      let lists : stage_lists c r t ≡ true = right_true (stage_named c t) (stage_lists c r t) fields in
      let of-ports : Bool = ports_laid r.ports c.ports t.ports t.payload in
      let of_steps : Bool = laid r.steps c.steps t.steps in
      let two : (of-ports && of_steps) ≡ true = left_true (of-ports && of_steps) (laid r.refs c.refs t.declarations) lists in
      let owner : Bool = ltb t.interface.0 c.interfaces && or_none c.layers t.layer.0 in
      let has : Bool = header_has (header_of t.header) t.ports.count in
      record {
        header = header_back t.header t.ports.count (right_true owner has (left_true (owner && has) (transfer_good c t) named));
        ports-first =
            eqb-true t.ports.first r.ports
            (left_true (eqb t.ports.first r.ports) (leb (t.ports.first + t.ports.count + t.payload) c.ports)
            (left_true of-ports of_steps two));
        steps_first = laid-first r.steps c.steps t.steps (right_true of-ports of_steps two);
        refs-first = laid-first r.refs c.refs t.declarations (right_true (of-ports && of_steps) _ lists);
        refs = ap (λ (q : Running). q.refs) next;
        steps = ap (λ (q : Running). q.steps) next;
        ports = ap (λ (q : Running). q.ports) next;
      }

  pub local-turn : judge Locals s c p r ≡ Some r' → r ≡ r'
  local-turn j = moved (local_good c (local_at s p)) _ j

  pub type-turn : judge Types s c p r ≡ Some r' → r ≡ r'
  type-turn j = moved (type_good (type_at s p)) _ j

  pub step-turn : c.layers ≤ 64 → judge Steps s c p r ≡ Some r' → StepTurn r r' (step_at s p)
  step-turn few j =
      let t : StepRecord = step_at s p in
      let next = moved (step_good c r t) _ j in
      let good : step_good c r t ≡ true = passed (step_good c r t) _ j in
      let has : Bool = step_has (step_of t.tag t.a t.b) t.ports.count in
      let named : Bool = step_named c t in
      let two : (has && named) ≡ true = left_true (has && named) (laid r.ports c.ports t.ports) good in
      let fields = step_fields_lem c few t.a t.b t.ports t.tag (left_true has named two) (right_true has named two) in
      record {
        tag = step_back t.tag t.a t.b t.ports.count (left_true has named two);
        a = fields.0;
        b = fields.1;
        first = laid-first r.ports c.ports t.ports (right_true (has && named) _ good);
        ports = ap (λ (q : Running). q.ports) next;
        refs = sym (ap (λ (q : Running). q.refs) next);
        steps = sym (ap (λ (q : Running). q.steps) next);
      }

  pub port_turn : judge Ports s c p r ≡ Some r' → PortTurn r r' (port_at s p)
  port_turn j =
      let t : PortRecord = port_at s p in
      let good : port_good c t ≡ true = passed (port_good c t) _ j in
      let named : Bool = type_named c t.ty.0 in
      let known : Bool = leb t.kind 7 in
      let free : Bool = eqb t.kind 6 || eqb t.b 0 in
      let fields =
      port_fields t.a t.b t.kind (right_true named known (left_true (named && known) free good)) (right_true (named && known) free good) in
      record { kind = fields.0; a = fields.1; b = fields.2; same = moved (port_good c t) _ j }
