-- An accepted image is read as a well-formed value.
use Rattle.std.specs.Prelude.{None, Ok, Option, Some}
use mathlib.Core.Path.{◌≡◌, ◌∙◌, refl, sym, ap, subst}
use mathlib.Core.Bool.{Bool as Truth, true, false, not, cond, ◌&&◌, ◌||◌, true≢false}
use mathlib.Core.List.{List}
use Prim.Native.Nat.{ℕ, ◌+◌, ◌<◌, ◌≤◌, min}
use Prim.{tt}
use native.Mathlib.Nat.{zero-add, min-eq_left}
use native.Mathlib.Omega.{arith}
use lib.Dec.{eqb, ltb, leb}
use lib.ListN.{length}
use borrow.Author.Tests.{ltb-true, lt-ltb}
use Rattle.vir.specs.declared.interface.InterfaceKind.{InterfaceKind}
use Rattle.vir.specs.Arity.{allows}
use Rattle.vir.specs.Header.{header_of, header_ports}
use Rattle.vir.specs.Ids.{none}
use Rattle.vir.specs.Interface.{kind_of, kind_number, entries_of}
use Rattle.vir.specs.Port.{port_of, ports}
use Rattle.vir.specs.Step.{step_of, steps, step_ports, onward_of}
use Rattle.records.specs.declared.layout.Counts.{Counts}
use Rattle.records.specs.declared.layout.Section.{Section}
use Rattle.records.specs.declared.layout.Section.TheVariants.{Layers, Interfaces, Stages, Locals, Types, Steps, Ports}
use Rattle.records.specs.declared.record.Run.{Run}
use Rattle.records.specs.declared.record.InterfaceRecord.{InterfaceRecord}
use Rattle.records.specs.declared.record.LayerRecord.{LayerRecord}
use Rattle.records.specs.declared.record.StageRecord.{StageRecord}
use Rattle.records.specs.declared.record.StepRecord.{StepRecord}
use Rattle.records.specs.declared.running.Running.{Running}
use Rattle.records.specs.Bytes.{Bytes, u16_at, u32_at}
use Rattle.rules.specs.Faults.{or_none, type_named, laid, refs_below, layer_fields, layer_good, kind_lists, entries_named, interface_fields, interface_good, header_has, transfer_good, stage_named, stage_lists, stage_fields, stage_good, local_good, step_has, step_named, step_good, port_good}
use Rattle.judging.specs.Judge.{judge, walk_section}
use Rattle.records.specs.Layout.{counts_of, count_of, within, Sized, place_of}
use Rattle.records.specs.Records.{layer_at, interface_at, stage_at, local_at, step_at, port_at}
use Rattle.records.proofs.Guards.{left_true, right_true}
use Rattle.image.specs.Check.{check_of}
use Rattle.image.specs.Encode.{counts_of_vir, all_actions, all_ports}
use Rattle.image.specs.Kind.{all}
use Rattle.image.specs.View.{collect, header_in, kind_in, port_in, step_in, layer_of_record, interface_of_record, stage_of_record, action_of_record, view_of, view}
use Rattle.image.proofs.Answering.{within-sized}
use Rattle.image.proofs.Clean.{along_section, passed, Through, through}
use Rattle.image.proofs.Gathered.{nth_ref, nth_port, nth_action, nth_flex, nth_local, nth_stage, nth_interface, nth_layer}
use Rattle.image.proofs.Numbers.{half-below}
use Rattle.image.proofs.Reading.{counts-read}
use Rattle.image.proofs.RoundTrip.{encode-view, actions_are, ports_are}
use Rattle.image.proofs.Tags.{kind_back}
use Rattle.rules.proofs.Cases.{◌▸◌, each_at}
use Rattle.image.proofs.Viewing.{length-collect}
use Rattle.wellformed.specs.WellFormed.{u16_fits, u32_fits, layer_fits, interface_fits, stage_fits, local_fits, onward_fits, step_fits, action_fits, port_kind_fits, port_fits, flex_fits, WellFormed}
use Rattle.wellformed.proofs.Entries.{refs_same, entries_same}
use Rattle.wellformed.proofs.Taken.{taken}
use Rattle.vir.specs.declared.port.PortKind.{PortKind}
use Rattle.vir.specs.declared.header.Header.{Header}
use Rattle.vir.specs.declared.step.Step.{Step}

-- a test that each record of a section that is clean passes
all-along : {A : Type 0} (s : List ℕ) (c : Counts) (x : Section) (f : A → Truth) (g : ℕ → A) (r q : Running)
    → ((i : ℕ) (r r' : Running) → judge x s c (place_of c x i) r ≡ Some r' → f (g i) ≡ true)
    → walk_section s c x r ≡ Ok q → all f (collect g 0 (count_of c x)) ≡ true
unfolding all collect
all-along s c x f g r q one =
    along_section s c x q (count_of c x) (λ i n r. all f (collect g i n) ≡ true)
    (λ i e. refl) (λ i n r r' j rest i'. one i r r' j i' && rest i') r refl

-- what is found has the number of entries or ports that the test lets it have
kind_lists_lem : (f : Option InterfaceKind) (n : ℕ) → kind_lists f n ≡ true → allows (entries_of (kind_in f)) n ≡ true
kind_lists_lem (Some k) n h = h
kind_lists_lem None n h = absurd (true≢false (sym h))

header_has_lem : (f : Option Header) (n : ℕ) → header_has f n ≡ true → allows (header_ports (header_in f)) n ≡ true
header_has_lem (Some k) n h = h
header_has_lem None n h = absurd (true≢false (sym h))

step_has_lem : (f : Option Step) (n : ℕ) → step_has f n ≡ true → allows (step_ports (step_in f)) n ≡ true
step_has_lem (Some k) n h = h
step_has_lem None n h = absurd (true≢false (sym h))

module _ (s : List ℕ) (c : Counts) where
  layer_fits_lem : (r : Running) (l : LayerRecord) → layer_good s c r l ≡ true → layer_fits c (layer_of_record s c l) ≡ true
  unfolding layer_good
  layer_fits_lem r l h =
      let parent = left_true (or_none c.layers l.parent.0) (laid r.refs c.refs l.stages)
      (left_true (layer_fields c r l) (refs_below s c l.stages c.stages) h) in
      let stages = sym (refs_same s c l.stages c.stages) ∙ right_true (layer_fields c r l) (refs_below s c l.stages c.stages) h in
      λ i. parent i && stages i

  interface-fits : (r : Running) (y : InterfaceRecord) → u16_fits y.layer.0 ≡ true → u16_fits y.key ≡ true → interface_good s c r y ≡ true
      → interface_fits c (interface_of_record s c y) ≡ true
  unfolding interface_good
  interface-fits r y small-layer small-key h =
      let lists : Truth = kind_lists (kind_of y.kind) y.list.count in
      let keyed : Truth = eqb y.kind 2 || eqb y.key 0 in
      let fields : interface_fields c r y ≡ true = left_true (interface_fields c r y) (entries_named s c y) h in
      let two : (lists && keyed) ≡ true = left_true (lists && keyed) (laid r.refs c.refs y.list) fields in
      let kind : InterfaceKind = kind_in (kind_of y.kind) in
      let number : y.kind ≡ kind_number kind = kind_back y.kind y.list.count (left_true lists keyed two) in
      let allowed : allows (entries_of kind) y.list.count ≡ true = kind_lists_lem (kind_of y.kind) y.list.count (left_true lists keyed two) in
      let long = ap (allows (entries_of kind)) (length-collect (nth_ref s c) y.list.first y.list.count) ∙ allowed in
      let key = ap (λ (n : ℕ). eqb n 2 || eqb y.key 0) (sym number) ∙ right_true lists keyed two in
      let entries = sym (entries_same s c kind y number allowed) ∙ right_true (interface_fields c r y) (entries_named s c y) h in
      λ i. small-layer i && long i && small-key i && key i && entries i

  stage-fits : (r : Running) (t : StageRecord) → u32_fits t.span.0 ≡ true → u32_fits t.key ≡ true → u16_fits t.wires ≡ true
      → stage_good s c r t ≡ true → stage_fits c (stage_of_record s c t) ≡ true
  unfolding stage_good
  stage-fits r t span key wires h =
      let declared : Truth = refs_below s c t.declarations c.locals in
      let names : stage_named c t ≡ true = left_true (stage_named c t) (stage_lists c r t) (left_true (stage_fields c r t) declared h) in
      let owner : Truth = ltb t.interface.0 c.interfaces in
      let layer : Truth = or_none c.layers t.layer.0 in
      let has : Truth = header_has (header_of t.header) t.ports.count in
      let to : Truth = or_none c.interfaces t.transfer.0 in
      let one : Truth = leb t.payload 1 in
      let sent : Truth = eqb t.payload 0 || not (eqb t.transfer.0 none) in
      let three : (owner && layer && has) ≡ true = left_true (owner && layer && has) (transfer_good c t) names in
      let two : (owner && layer) ≡ true = left_true (owner && layer) has three in
      let good : (to && one && sent) ≡ true = right_true (owner && layer && has) (transfer_good c t) names in
      let both : (to && one) ≡ true = left_true (to && one) sent good in
      let owner-named : owner ≡ true = left_true owner layer two in
      let layer-named : layer ≡ true = right_true owner layer two in
      let header =
      ap (allows (header_ports (header_in (header_of t.header)))) (length-collect (nth_port s c) t.ports.first t.ports.count)
      ∙ header_has_lem (header_of t.header) t.ports.count (right_true (owner && layer) has three) in
      let declarations = sym (refs_same s c t.declarations c.locals) ∙ right_true (stage_fields c r t) declared h in
      let transfer : to ≡ true = left_true to one both in
      let payload : length (stage_of_record s c t).payload ≡ t.payload =
      length-collect (nth_port s c) (t.ports.first + t.ports.count) t.payload in
      let few = ap (λ (n : ℕ). leb n 1) payload ∙ right_true to one both in
      let some = ap (λ (n : ℕ). eqb n 0 || not (eqb t.transfer.0 none)) payload ∙ right_true (to && one) sent good in
      λ i. span i && owner-named i && layer-named i && header i && key i && declarations i && wires i && transfer i && few i && some i

module _ (c : Counts) (few : c.layers ≤ 64) (a b : ℕ) (small : u32_fits a ≡ true) (run : Run) where
  -- a step that was read from a tag and fields that name what is there
  abbrev Read : ℕ → Option Step → Type 0
  Read n x = step_named c (record { tag = n; a = a; b = b; ports = run }) ≡ true → step_fits c (step_in x) ≡ true

  invoked : ltb b c.locals ≡ true → (u32_fits a && ltb b c.locals) ≡ true
  invoked h = λ i. small i && h i

  transferred : (eqb a 0 && ltb b c.interfaces) ≡ true → ltb b c.interfaces ≡ true
  transferred = right_true (eqb a 0) (ltb b c.interfaces)

  onward-fits : or_none c.interfaces b ≡ true → onward_fits c (onward_of b) ≡ true
  onward-fits h = go (eqb b none) h
    where
      go : (t : Truth) → (t || ltb b c.interfaces) ≡ true → onward_fits c (cond t None (Some (record { 0 = b }))) ≡ true
      go true h = refl
      go false h = h

  diverged : (ltb a c.layers && or_none c.interfaces b) ≡ true → (ltb (min a none) c.layers && onward_fits c (onward_of b)) ≡ true
  diverged h =
      let layer : ltb a c.layers ≡ true = left_true (ltb a c.layers) _ h in
      let below : a < c.layers = ltb-true a c.layers layer in
      let same : min a none ≡ a = min-eq_left (omega arith) in
      let target = ap (λ (n : ℕ). ltb n c.layers) same ∙ layer in
      let onward = onward-fits (right_true (ltb a c.layers) _ h) in
      λ i. target i && onward i

  keyed : eqb b 0 ≡ true → u32_fits a ≡ true
  keyed h = small

  step_fits_lem : (n : ℕ) → Read n (step_of n a b)
  unfolding step_of
  step_fits_lem n =
      subst (λ (k : ℕ). Read k (step_of n a b)) (zero-add n)
      (each_at Read 0 (steps a b) None
      (invoked ▸ invoked ▸ invoked ▸ invoked ▸ invoked ▸ invoked ▸ transferred ▸ diverged
      ▸ keyed ▸ keyed ▸ keyed ▸ keyed ▸ keyed ▸ keyed ▸ keyed ▸ keyed ▸ keyed ▸ keyed ▸ keyed ▸ keyed ▸ keyed ▸ tt)
      (λ i p h. refl)
      n)

-- whatever port kind is read from fields of 32 and 16 bits
port_fits_lem : (c : Counts) (n a b : ℕ) → u32_fits a ≡ true → u16_fits b ≡ true → port_kind_fits c (port_in (port_of n a b)) ≡ true
unfolding port_of
port_fits_lem c n a b small half =
    each_at (λ (k : ℕ) (x : Option PortKind). port_kind_fits c (port_in x) ≡ true) 0 (ports a b) None
    (small ▸ small ▸ small ▸ small ▸ small ▸ small ▸ (λ i. small i && half i) ▸ small ▸ tt)
    (λ i p. refl)
    n

action_fits_lem : (s : List ℕ) (c : Counts) (r : Running) (t : StepRecord) → c.layers ≤ 64 → u32_fits t.a ≡ true → step_good c r t ≡ true
    → action_fits c (action_of_record s c t) ≡ true
action_fits_lem s c r t few small h =
    let has : Truth = step_has (step_of t.tag t.a t.b) t.ports.count in
    let two : (has && step_named c t) ≡ true = left_true (has && step_named c t) (laid r.ports c.ports t.ports) h in
    let allowed =
    ap (allows (step_ports (step_in (step_of t.tag t.a t.b)))) (length-collect (nth_port s c) t.ports.first t.ports.count)
    ∙ step_has_lem (step_of t.tag t.a t.b) t.ports.count (left_true has (step_named c t) two) in
    let fields = step_fits_lem c few t.a t.b small t.ports t.tag (right_true has (step_named c t) two) in
    λ i. allowed i && fields i

-- numbers that were read fit their fields
module _ (s : List ℕ) (small : Bytes s) (p : ℕ) where
  u16_fits_lem : u16_fits (u16_at s p) ≡ true
  u16_fits_lem = lt-ltb (u16_at s p) 65536 (half-below s small p)

  u32_fits_lem : u32_fits (u32_at s p) ≡ true
  unfolding u32_at
  u32_fits_lem = lt-ltb (u32_at s p) 4294967296 (omega (arith, half-below s small p, half-below s small (p + 2)))

module _ (s : List ℕ) (small : Bytes s) (h : (check_of s).code ≡ 0) where
  abbrev c : Counts
  c = counts_of s

  sized : Sized s c
  sized = within-sized s c (taken s h).counted (taken s h).long

  way : Through s c (record { refs = 0; steps = 0; ports = 0 }) (taken s h).last
  way = through s c (record { refs = 0; steps = 0; ports = 0 }) (taken s h).last (taken s h).clean

  counts_same : counts_of_vir (view s) ≡ c
  counts_same =
      sym (counts-read (view s)) ∙ ap counts_of (encode-view s small sized (taken s h).mark (taken s h).clean (taken s h).own)

  layers_fit : all (layer_fits c) (view s).layers ≡ true
  unfolding view_of
  layers_fit =
      all-along s c Layers (layer_fits c) (nth_layer s c) (record { refs = 0; steps = 0; ports = 0 }) way.layers
      (λ k r r' j. layer_fits_lem s c r (layer_at s (place_of c Layers k)) (passed _ _ j)) way.by-layers

  interfaces_fit : all (interface_fits c) (view s).interfaces ≡ true
  unfolding view_of
  interfaces_fit =
      all-along s c Interfaces (interface_fits c) (nth_interface s c) way.layers way.interfaces
      (λ k r r' j.
      let p : ℕ = place_of c Interfaces k in
      interface-fits s c r (interface_at s p) (u16_fits_lem s small p) (u16_fits_lem s small (p + 3)) (passed _ _ j)) way.by-interfaces

  stages_fit : all (stage_fits c) (view s).stages ≡ true
  unfolding view_of
  stages_fit =
      all-along s c Stages (stage_fits c) (nth_stage s c) way.interfaces way.stages
      (λ k r r' j.
      let p : ℕ = place_of c Stages k in
      stage-fits s c r (stage_at s p) (u32_fits_lem s small p) (u32_fits_lem s small (p + 9)) (u16_fits_lem s small (p + 25)) (passed _ _ j)) way.by-stages

  locals_fit : all (local_fits c) (view s).locals ≡ true
  unfolding view_of
  locals_fit =
      all-along s c Locals (local_fits c) (nth_local s c) way.stages way.locals
      (λ k r r' j.
      let p : ℕ = place_of c Locals k in
      let good : local_good c (local_at s p) ≡ true = passed _ _ j in
      let named : type_named c (u16_at s (p + 4)) ≡ true = left_true (type_named c (u16_at s (p + 4))) _ good in
      let flags = right_true (type_named c (u16_at s (p + 4))) _ good in
      λ i. u32_fits_lem s small p i && u16_fits_lem s small (p + 4) i && named i && flags i) way.by-locals

  types_fit : all flex_fits (view s).types ≡ true
  unfolding view_of
  types_fit = all-along s c Types flex_fits (nth_flex s c) way.locals way.types (λ k r r' j. passed _ _ j) way.by-types

  actions_fit : all (action_fits c) (all_actions (view s)) ≡ true
  actions_fit =
      ap (all (action_fits c)) (actions_are s c sized.layers (taken s h).last way (taken s h).own)
      ∙ all-along s c Steps (action_fits c) (nth_action s c) way.types way.steps
      (λ k r r' j.
      let p : ℕ = place_of c Steps k in
      action_fits_lem s c r (step_at s p) sized.layers (u32_fits_lem s small (p + 1)) (passed _ _ j)) way.by-steps

  ports_fit : all (port_fits c) (all_ports (view s)) ≡ true
  ports_fit =
      ap (all (port_fits c)) (ports_are s c sized.layers (taken s h).last way (taken s h).own)
      ∙ all-along s c Ports (port_fits c) (nth_port s c) way.steps (taken s h).last
      (λ k r r' j.
      let p : ℕ = place_of c Ports k in
      let good : port_good c (port_at s p) ≡ true = passed _ _ j in
      let known : Truth = leb (port_at s p).kind 7 in
      let free : Truth = eqb (port_at s p).kind 6 || eqb (port_at s p).b 0 in
      let named : type_named c (u16_at s p) ≡ true =
      left_true (type_named c (u16_at s p)) known (left_true (type_named c (u16_at s p) && known) free good) in
      let kind = port_fits_lem c (port_at s p).kind (port_at s p).a (port_at s p).b (u32_fits_lem s small (p + 3)) (u16_fits_lem s small (p + 7)) in
      λ i. u16_fits_lem s small p i && named i && kind i) way.by-ports

pub viewed : (s : List ℕ) → Bytes s → (check_of s).code ≡ 0 → WellFormed (view s)
viewed s small h =
    let same : counts_of_vir (view s) ≡ counts_of s = counts_same s small h in
    record {
      counted = ap within same ∙ (taken s h).counted;
      layers = ap (λ (c : Counts). all (layer_fits c) (view s).layers) same ∙ layers_fit s small h;
      interfaces = ap (λ (c : Counts). all (interface_fits c) (view s).interfaces) same ∙ interfaces_fit s small h;
      stages = ap (λ (c : Counts). all (stage_fits c) (view s).stages) same ∙ stages_fit s small h;
      locals = ap (λ (c : Counts). all (local_fits c) (view s).locals) same ∙ locals_fit s small h;
      types = types_fit s small h;
      actions = ap (λ (c : Counts). all (action_fits c) (all_actions (view s))) same ∙ actions_fit s small h;
      ports = ap (λ (c : Counts). all (port_fits c) (all_ports (view s))) same ∙ ports_fit s small h;
    }
