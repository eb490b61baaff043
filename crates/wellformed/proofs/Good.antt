-- A record that is written from what fits is good.
use Rattle.std.specs.Prelude.{None, Option, Some}
use mathlib.Core.Path.{◌≡◌, ◌∙◌, refl, ap}
use mathlib.Core.Bool.{Bool as Truth, true, not, ◌&&◌, ◌||◌, or-true}
use mathlib.Core.List.{List}
use Prim.Native.Nat.{ℕ, ◌+◌, ◌≤◌}
use lib.Dec.{eqb, ltb, leb}
use lib.ListN.{length}
use borrow.Author.Tests.{eq-eqb, le-leb}
use Rattle.vir.specs.declared.invocation.Invocation.TheVariants.{Barrier, Read, Write, ReadBarrier, BarrierWrite, ReadWrite}
use Rattle.vir.specs.declared.port.PortKind.{PortKind}
use Rattle.vir.specs.declared.port.PortKind.TheVariants.{Nil, Bool, N32, F32, F64, Nat, Wire, Error}
use Rattle.vir.specs.declared.step.Step.{Step}
use Rattle.vir.specs.declared.step.Step.TheVariants.{Invoke, Transfer, Diverge, Link, Call, Const, Composite, Rewrap, Enum, Union, Ref, List as Listing, String, InlineIvy, BoolNot, BoolAnd}
use Rattle.vir.specs.Arity.{allows}
use Rattle.vir.specs.Header.{header_ports}
use Rattle.vir.specs.Ids.{none}
use Rattle.vir.specs.Interface.{kind_number, entries_of}
use Rattle.vir.specs.Port.{port_number}
use Rattle.vir.specs.Step.{step_ports, step_tag}
use Rattle.records.specs.declared.layout.Counts.{Counts}
use Rattle.records.specs.declared.record.Run.{Run}
use Rattle.records.specs.declared.running.Running.{Running}
use Rattle.rules.specs.Faults.{or_none, type_named, flags_good, laid, ports_laid, refs_below, layer_good, kind_lists, interface_good, header_has, stage_good, local_good, step_has, step_named, step_good, port_good}
use Rattle.records.proofs.Guards.{left_true, right_true}
use Rattle.image.specs.Encode.{onward_b, port_b, step_a, step_b}
use Rattle.image.specs.Kind.{all}
use Rattle.image.specs.Vir.{Layer, Interface, Port, Action, Stage, Local}
use Rattle.image.proofs.Gathered.{nth_ref}
use Rattle.image.proofs.Named.{kind_found_lem, header_found, step_found}
use Rattle.image.specs.Stands.{Stands}
use Rattle.image.proofs.Standing.{stands-collect}
use Rattle.image.proofs.Written.{layer_record, interface_record, stage_record, local_record, step_record, port_record}
use Rattle.wellformed.specs.WellFormed.{u16_fits, u32_fits, layer_fits, entries_fit, interface_fits, stage_fits, local_fits, onward_fits, step_fits, action_fits, port_kind_fits, port_fits}
use Rattle.wellformed.proofs.Entries.{refs_same, entries_same}
use Rattle.wellformed.proofs.Plain.{plain_step_lem}
use Rattle.vir.specs.declared.ids.InterfaceId.{InterfaceId}
use Rattle.vir.specs.declared.interface.InterfaceKind.{InterfaceKind}
use Rattle.vir.specs.declared.header.Header.{Header}

-- a list that starts at the running place
laid_here : (running total count : ℕ) → running + count ≤ total → laid running total (record { first = running; count = count }) ≡ true
laid_here running total count h = λ i. eq-eqb running running refl i && le-leb (running + count) total h i

module _ (s : List ℕ) (c : Counts) where
  refs-below : (refs n : ℕ) (l : List ℕ) → Stands (nth_ref s c) refs l → all (λ t. ltb t n) l ≡ true
      → refs_below s c (record { first = refs; count = length l }) n ≡ true
  refs-below refs n l x h =
      refs_same s c (record { first = refs; count = length l }) n ∙ ap (all (λ t. ltb t n)) (stands-collect l x) ∙ h

  module _ (r : Running) where
    pub layer_good_lem : (y : Layer) → layer_fits c y ≡ true → Stands (nth_ref s c) r.refs y.stages → r.refs + length y.stages ≤ c.refs
        → layer_good s c r (layer_record r.refs y) ≡ true
    unfolding layer_good
    layer_good_lem y fits x room =
        let parent : Truth = or_none c.layers y.parent in
        let stages : Truth = all (λ t. ltb t c.stages) y.stages in
        let named = left_true parent stages fits in
        let lies = laid_here r.refs c.refs (length y.stages) room in
        let listed = refs-below r.refs c.stages y.stages x (right_true parent stages fits) in
        λ i. named i && lies i && listed i

    pub interface_good_lem : (y : Interface) → interface_fits c y ≡ true → Stands (nth_ref s c) r.refs y.list → r.refs + length y.list ≤ c.refs
        → interface_good s c r (interface_record r.refs y) ≡ true
    unfolding interface_good
    interface_good_lem y fits x room =
        let n : ℕ = length y.list in
        let layer : Truth = u16_fits y.layer in
        let long : Truth = allows (entries_of y.kind) n in
        let small : Truth = u16_fits y.key in
        let key : Truth = eqb (kind_number y.kind) 2 || eqb y.key 0 in
        let entries : Truth = entries_fit c y.kind y.list in
        let four : (layer && long && small && key) ≡ true = left_true (layer && long && small && key) entries fits in
        let three : (layer && long && small) ≡ true = left_true (layer && long && small) key four in
        let allowed : long ≡ true = right_true layer long (left_true (layer && long) small three) in
        let lists = ap (λ (f : Option InterfaceKind). kind_lists f n) (kind_found_lem y.kind) ∙ allowed in
        let keyed = right_true (layer && long && small) key four in
        let lies = laid_here r.refs c.refs n room in
        let named =
        entries_same s c y.kind (interface_record r.refs y) refl allowed
        ∙ ap (entries_fit c y.kind) (stands-collect y.list x)
        ∙ right_true (layer && long && small && key) entries fits in
        λ i. lists i && keyed i && lies i && named i

    -- t1 to t10 are the tests of stage_fits, and to3 to to9 say that the first so many hold
    pub stage_good_lem : (y : Stage) → stage_fits c y ≡ true → Stands (nth_ref s c) r.refs y.declarations
        → r.refs + length y.declarations ≤ c.refs → r.steps + length y.steps ≤ c.steps
        → r.ports + length y.ports + length y.payload ≤ c.ports
        → stage_good s c r (stage_record r.refs r.steps r.ports y) ≡ true
    unfolding stage_good
    stage_good_lem y fits x room-refs room-steps room-ports =
        let t1 : Truth = u32_fits y.span in
        let t2 : Truth = ltb y.interface c.interfaces in
        let t3 : Truth = or_none c.layers y.layer in
        let t4 : Truth = allows (header_ports y.header) (length y.ports) in
        let t5 : Truth = u32_fits y.key in
        let t6 : Truth = all (λ l. ltb l c.locals) y.declarations in
        let t7 : Truth = u16_fits y.wires in
        let t8 : Truth = or_none c.interfaces y.transfer in
        let t9 : Truth = leb (length y.payload) 1 in
        let t10 : Truth = eqb (length y.payload) 0 || not (eqb y.transfer none) in
        let to9 : (t1 && t2 && t3 && t4 && t5 && t6 && t7 && t8 && t9) ≡ true = left_true _ t10 fits in
        let to8 : (t1 && t2 && t3 && t4 && t5 && t6 && t7 && t8) ≡ true = left_true _ t9 to9 in
        let to7 : (t1 && t2 && t3 && t4 && t5 && t6 && t7) ≡ true = left_true _ t8 to8 in
        let to6 : (t1 && t2 && t3 && t4 && t5 && t6) ≡ true = left_true _ t7 to7 in
        let to5 : (t1 && t2 && t3 && t4 && t5) ≡ true = left_true _ t6 to6 in
        let to4 : (t1 && t2 && t3 && t4) ≡ true = left_true _ t5 to5 in
        let to3 : (t1 && t2 && t3) ≡ true = left_true _ t4 to4 in
        let owner : t2 ≡ true = right_true t1 t2 (left_true (t1 && t2) t3 to3) in
        let layer : t3 ≡ true = right_true (t1 && t2) t3 to3 in
        let header =
        ap (λ (f : Option Header). header_has f (length y.ports)) (header_found y.header) ∙ right_true (t1 && t2 && t3) t4 to4 in
        let transfer : t8 ≡ true = right_true (t1 && t2 && t3 && t4 && t5 && t6 && t7) t8 to8 in
        let few : t9 ≡ true = right_true (t1 && t2 && t3 && t4 && t5 && t6 && t7 && t8) t9 to9 in
        let some : t10 ≡ true = right_true (t1 && t2 && t3 && t4 && t5 && t6 && t7 && t8 && t9) t10 fits in
        let declared =
        refs-below r.refs c.locals y.declarations x (right_true (t1 && t2 && t3 && t4 && t5) t6 to6) in
        let ports-lie : ports_laid r.ports c.ports (record { first = r.ports; count = length y.ports }) (length y.payload) ≡ true =
        λ i. eq-eqb r.ports r.ports refl i && le-leb (r.ports + length y.ports + length y.payload) c.ports room-ports i in
        let steps-lie = laid_here r.steps c.steps (length y.steps) room-steps in
        let refs-lie = laid_here r.refs c.refs (length y.declarations) room-refs in
        λ i.
        (owner i && layer i && header i && (transfer i && few i && some i))
        && (ports-lie i && steps-lie i && refs-lie i)
        && declared i

pub local_good_lem : (c : Counts) (y : Local) → local_fits c y ≡ true → local_good c (local_record y) ≡ true
local_good_lem c y fits =
    let span : Truth = u32_fits y.span in
    let ty : Truth = u16_fits y.ty in
    let three : (span && ty && type_named c y.ty) ≡ true = left_true _ (flags_good y.flags) fits in
    let named = right_true (span && ty) (type_named c y.ty) three in
    let flags = right_true (span && ty && type_named c y.ty) (flags_good y.flags) fits in
    λ i. named i && flags i

-- only a wire has a field b
port_fields : (k : PortKind) → (leb (port_number k) 7 ≡ true) × ((eqb (port_number k) 6 || eqb (port_b k) 0) ≡ true)
port_fields (Nil a) = (refl, refl)
port_fields (Bool a) = (refl, refl)
port_fields (N32 a) = (refl, refl)
port_fields (F32 a) = (refl, refl)
port_fields (F64 a) = (refl, refl)
port_fields (Nat a) = (refl, refl)
port_fields (Wire span w) = (refl, refl)
port_fields (Error a) = (refl, refl)

pub port_good_lem : (c : Counts) (y : Port) → port_fits c y ≡ true → port_good c (port_record y) ≡ true
port_good_lem c y fits =
    let ty : Truth = u16_fits y.ty in
    let named = right_true ty (type_named c y.ty) (left_true (ty && type_named c y.ty) (port_kind_fits c y.kind) fits) in
    let fields = port_fields y.kind in
    λ i. named i && fields.0 i && fields.1 i

module _ (c : Counts) (run : Run) where
  onward-named : (o : Option InterfaceId) → onward_fits c o ≡ true → or_none c.interfaces (onward_b o) ≡ true
  onward-named (Some t) h = ap (λ (b : Truth). eqb t.0 none || b) h ∙ or-true (eqb t.0 none)
  onward-named None h = refl

  step_names : (t : Step) → step_fits c t ≡ true → step_named c (record { tag = step_tag t; a = step_a t; b = step_b t; ports = run }) ≡ true
  step_names (Invoke span l Barrier) h = right_true (u32_fits span.0) (ltb l.0 c.locals) h
  step_names (Invoke span l Read) h = right_true (u32_fits span.0) (ltb l.0 c.locals) h
  step_names (Invoke span l Write) h = right_true (u32_fits span.0) (ltb l.0 c.locals) h
  step_names (Invoke span l ReadBarrier) h = right_true (u32_fits span.0) (ltb l.0 c.locals) h
  step_names (Invoke span l BarrierWrite) h = right_true (u32_fits span.0) (ltb l.0 c.locals) h
  step_names (Invoke span l ReadWrite) h = right_true (u32_fits span.0) (ltb l.0 c.locals) h
  step_names (Transfer t) h = h
  step_names (Diverge l o) h =
      let layer = left_true (ltb l.0 c.layers) (onward_fits c o) h in
      let onward = onward-named o (right_true (ltb l.0 c.layers) (onward_fits c o) h) in
      λ i. layer i && onward i
  step_names (Link k) h = refl
  step_names (Call k) h = refl
  step_names (Const k) h = refl
  step_names (Composite k) h = refl
  step_names (Rewrap k) h = refl
  step_names (Enum k) h = refl
  step_names (Union k) h = refl
  step_names (Ref k) h = refl
  step_names (Listing k) h = refl
  step_names (String k) h = refl
  step_names (InlineIvy k) h = refl
  step_names (BoolNot k) h = refl
  step_names (BoolAnd k) h = refl

pub step_good_lem : (c : Counts) (r : Running) → c.layers ≤ 64 → c.interfaces ≤ 256 → (y : Action) → action_fits c y ≡ true
    → r.ports + length y.ports ≤ c.ports → step_good c r (step_record r.ports y) ≡ true
step_good_lem c r few few-interfaces y fits room =
    let n : ℕ = length y.ports in
    let long : Truth = allows (step_ports y.step) n in
    let fields : step_fits c y.step ≡ true = right_true long (step_fits c y.step) fits in
    let found = step_found y.step (plain_step_lem c few few-interfaces y.step fields) in
    let has = ap (λ (f : Option Step). step_has f n) found ∙ left_true long (step_fits c y.step) fits in
    let named = step_names c (record { first = r.ports; count = n }) y.step fields in
    let lies = laid_here r.ports c.ports n room in
    λ i. has i && named i && lies i
