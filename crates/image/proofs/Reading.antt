-- A value that is written out as an image is read back from it.
use mathlib.Core.Path.{◌≡◌, ◌∙◌, refl, ap}
use mathlib.Core.Bool.{Bool, true}
use mathlib.Core.List.{List, [], ◌∷◌, ◌++◌}
use Prim.Native.Nat.{ℕ, suc, ◌+◌, ◌*◌}
use native.Mathlib.Nat.{zero-add}
use native.Mathlib.Omega.{arith}
use lib.ListN.{length, length-append}
use Rattle.records.specs.declared.layout.Counts.{Counts}
use Rattle.records.specs.Bytes.{u8_at, u16_at}
use Rattle.image.specs.Encode.{u16_bytes, layers_bytes, interfaces_bytes, stages_bytes, local_bytes, flex_bytes, actions_bytes, port_bytes, all_actions, stage_ports, all_ports, layer_refs, interface_refs, all_refs, counts_of_vir, count_bytes, encode, plain_step, Plain}
use Rattle.image.specs.Kind.{all, concat}
use Rattle.records.specs.Layout.{counts_of, layers_at, interfaces_at, stages_at, locals_at, types_at, steps_at, ports_at, refs_at, length_of}
use Rattle.image.specs.View.{collect, header_in, kind_in, port_in, step_in, port_of_record, action_of_record, layer_of_record, interface_of_record, stage_of_record, local_of_record, flex_of_record, view_of, view}
use Rattle.image.specs.Vir.{Layer, Interface, Port, Action, Stage, Local, Flex, Vir}
use Rattle.image.proofs.Concat.{length-concat}
use Rattle.image.proofs.Gathered.{nth_ref, nth_port, nth_action, nth_flex, nth_local, nth_stage, nth_interface, nth_layer}
use Rattle.records.proofs.Guards.{left_true, right_true}
use Rattle.image.proofs.Named.{kind_found_lem, header_found, port_found, step_found}
use Rattle.image.specs.Stands.{Stands}
use Rattle.image.proofs.Standing.{stands-none, stands-next, stands_move, stands_left, stands_right, stands_past, stands-collect, stands_whole, stands-concat, u16_in}
use Rattle.image.proofs.Written.{layer-written, interface-written, stage-written, local-written, type-written, step-written, port_written}

-- what stands in a section is what is read from it
module _ (s : List ℕ) (c : Counts) where
  refs-read : (l : List ℕ) → Stands (u8_at s) (refs_at c) (concat u16_bytes l) → Stands (nth_ref s c) 0 l
  refs-read l x =
      stands-concat s u16_bytes (nth_ref s c) (λ k. refs_at c + 2 * k) (λ k n. omega arith) (λ k n y. u16_in s 0 y refl (omega arith)) 0 l
      (stands_move (omega arith) x)

  port_read : (k : ℕ) (y : Port) → Stands (u8_at s) (ports_at c + 9 * k) (port_bytes y) → nth_port s c k ≡ y
  port_read k y x =
      ap (port_of_record s c) (port_written s (ports_at c + 9 * k) y x) ∙ (λ i. record { ty = y.ty; kind = port_in (port_found y.kind i) })

  ports-read : (l : List Port) → Stands (u8_at s) (ports_at c) (concat port_bytes l) → Stands (nth_port s c) 0 l
  ports-read l x =
      stands-concat s port_bytes (nth_port s c) (λ k. ports_at c + 9 * k) (λ k p. omega arith) port_read 0 l (stands_move (omega arith) x)

  locals-read : (l : List Local) → Stands (u8_at s) (locals_at c) (concat local_bytes l) → Stands (nth_local s c) 0 l
  locals-read l x =
      stands-concat s local_bytes (nth_local s c) (λ k. locals_at c + 7 * k) (λ k t. omega arith)
      (λ k y z. ap local_of_record (local-written s (locals_at c + 7 * k) y z)) 0 l (stands_move (omega arith) x)

  types-read : (l : List Flex) → Stands (u8_at s) (types_at c) (concat flex_bytes l) → Stands (nth_flex s c) 0 l
  types-read l x =
      stands-concat s flex_bytes (nth_flex s c) (λ k. types_at c + 2 * k) (λ k t. omega arith)
      (λ k y z. ap flex_of_record (type-written s (types_at c + 2 * k) y z)) 0 l (stands_move (omega arith) x)

  layers-read : (k refs : ℕ) (l : List Layer) → Stands (u8_at s) (layers_at c + 6 * k) (layers_bytes refs l)
      → Stands (nth_ref s c) refs (concat (λ y. y.stages) l) → Stands (nth_layer s c) k l
  unfolding layers_bytes concat
  layers-read k refs [] x r = stands-none
  layers-read k refs (y ∷ l) x r =
      let more : List ℕ = concat (λ y. y.stages) l in
      let stages : collect (nth_ref s c) refs (length y.stages) ≡ y.stages = stands-collect y.stages (stands_left y.stages more r) in
      stands-next
      (ap (layer_of_record s c) (layer-written s (layers_at c + 6 * k) refs y l x) ∙ (λ i. record { parent = y.parent; stages = stages i }))
      (layers-read (suc k) (refs + length y.stages) l (stands_past 6 x (omega arith)) (stands_right y.stages more r refl))

  interfaces-read : (k refs : ℕ) (l : List Interface) → Stands (u8_at s) (interfaces_at c + 9 * k) (interfaces_bytes refs l)
      → Stands (nth_ref s c) refs (concat (λ y. y.list) l) → Stands (nth_interface s c) k l
  unfolding interfaces_bytes concat
  interfaces-read k refs [] x r = stands-none
  interfaces-read k refs (y ∷ l) x r =
      let more : List ℕ = concat (λ y. y.list) l in
      let entries : collect (nth_ref s c) refs (length y.list) ≡ y.list = stands-collect y.list (stands_left y.list more r) in
      stands-next
      (ap (interface_of_record s c) (interface-written s (interfaces_at c + 9 * k) refs y l x)
      ∙ (λ i. record { layer = y.layer; kind = kind_in (kind_found_lem y.kind i); key = y.key; list = entries i }))
      (interfaces-read (suc k) (refs + length y.list) l (stands_past 9 x (omega arith)) (stands_right y.list more r refl))

  actions-read : (k ports : ℕ) (l : List Action) → Stands (u8_at s) (steps_at c + 11 * k) (actions_bytes ports l)
      → Stands (nth_port s c) ports (concat (λ y. y.ports) l) → all (λ y. plain_step y.step) l ≡ true → Stands (nth_action s c) k l
  unfolding actions_bytes concat all
  actions-read k ports [] x r plain = stands-none
  actions-read k ports (y ∷ l) x r plain =
      let more : List Port = concat (λ y. y.ports) l in
      let others : Bool = all (λ y. plain_step y.step) l in
      let found = step_found y.step (left_true (plain_step y.step) others plain) in
      let its : collect (nth_port s c) ports (length y.ports) ≡ y.ports = stands-collect y.ports (stands_left y.ports more r) in
      stands-next
      (ap (action_of_record s c) (step-written s (steps_at c + 11 * k) ports y l x) ∙ (λ i. record { step = step_in (found i); ports = its i }))
      (actions-read (suc k) (ports + length y.ports) l (stands_past 11 x (omega arith)) (stands_right y.ports more r refl)
      (right_true (plain_step y.step) others plain))

  stages-read : (k refs steps ports : ℕ) (l : List Stage) → Stands (u8_at s) (stages_at c + 30 * k) (stages_bytes refs steps ports l)
      → Stands (nth_ref s c) refs (concat (λ y. y.declarations) l) → Stands (nth_action s c) steps (concat (λ y. y.steps) l)
      → Stands (nth_port s c) ports (concat (λ y. y.ports ++ y.payload) l) → Stands (nth_stage s c) k l
  unfolding stages_bytes concat
  stages-read k refs steps ports [] x r t p = stands-none
  stages-read k refs steps ports (y ∷ l) x r t p =
      let more-refs : List ℕ = concat (λ y. y.declarations) l in
      let more-steps : List Action = concat (λ y. y.steps) l in
      let more-ports : List Port = concat (λ y. y.ports ++ y.payload) l in
      let both : Stands (nth_port s c) ports (y.ports ++ y.payload) = stands_left (y.ports ++ y.payload) more-ports p in
      let header-ports = stands-collect y.ports (stands_left y.ports y.payload both) in
      let declarations = stands-collect y.declarations (stands_left y.declarations more-refs r) in
      let actions = stands-collect y.steps (stands_left y.steps more-steps t) in
      let payload = stands-collect y.payload (stands_right y.ports y.payload both refl) in
      stands-next
      (ap (stage_of_record s c) (stage-written s (stages_at c + 30 * k) refs steps ports y l x)
      ∙ (λ i. record {
        span = y.span;
        interface = y.interface;
        layer = y.layer;
        header = header_in (header_found y.header i);
        key = y.key;
        ports = header-ports i;
        declarations = declarations i;
        steps = actions i;
        wires = y.wires;
        transfer = y.transfer;
        payload = payload i;
      }))
      (stages-read (suc k) (refs + length y.declarations) (steps + length y.steps) (ports + length y.ports + length y.payload) l
      (stands_past 30 x (omega arith))
      (stands_right y.declarations more-refs r refl)
      (stands_right y.steps more-steps t refl)
      (stands_right (y.ports ++ y.payload) more-ports p (omega (arith, length-append y.ports y.payload))))

-- how many bytes a section has
length-layers : (refs : ℕ) (l : List Layer) → length (layers_bytes refs l) ≡ 6 * length l
unfolding layers_bytes
length-layers refs [] = refl
length-layers refs (y ∷ l) = omega (arith, length-layers (refs + length y.stages) l)

length-interfaces : (refs : ℕ) (l : List Interface) → length (interfaces_bytes refs l) ≡ 9 * length l
unfolding interfaces_bytes
length-interfaces refs [] = refl
length-interfaces refs (y ∷ l) = omega (arith, length-interfaces (refs + length y.list) l)

length-stages : (refs steps ports : ℕ) (l : List Stage) → length (stages_bytes refs steps ports l) ≡ 30 * length l
unfolding stages_bytes
length-stages refs steps ports [] = refl
length-stages refs steps ports (y ∷ l) =
    omega (arith, length-stages (refs + length y.declarations) (steps + length y.steps) (ports + length y.ports + length y.payload) l)

length-actions : (ports : ℕ) (l : List Action) → length (actions_bytes ports l) ≡ 11 * length l
unfolding actions_bytes
length-actions ports [] = refl
length-actions ports (y ∷ l) = omega (arith, length-actions (ports + length y.ports) l)

grown : (l m : List ℕ) {a n : ℕ} → length l ≡ a → length m ≡ n → length (l ++ m) ≡ a + n
grown l m p q = length-append l m ∙ (λ i. p i + q i)

module _ (v : Vir) where
  abbrev counts : Counts
  counts = counts_of_vir v

  -- what stands before each section, and the section
  abbrev to_layers : List ℕ
  to_layers = (86 ∷ 73 ∷ 82 ∷ []) ++ u16_bytes 1 ++ count_bytes v

  abbrev layers_part : List ℕ
  layers_part = layers_bytes 0 v.layers

  abbrev to_interfaces : List ℕ
  to_interfaces = to_layers ++ layers_part

  abbrev interfaces_part : List ℕ
  interfaces_part = interfaces_bytes (length (layer_refs v)) v.interfaces

  abbrev to_stages : List ℕ
  to_stages = to_interfaces ++ interfaces_part

  abbrev stages_part : List ℕ
  stages_part = stages_bytes (length (layer_refs v) + length (interface_refs v)) 0 0 v.stages

  abbrev to_locals : List ℕ
  to_locals = to_stages ++ stages_part

  abbrev to_types : List ℕ
  to_types = to_locals ++ concat local_bytes v.locals

  abbrev to_steps : List ℕ
  to_steps = to_types ++ concat flex_bytes v.types

  abbrev steps_part : List ℕ
  steps_part = actions_bytes (length (stage_ports v)) (all_actions v)

  abbrev to_ports : List ℕ
  to_ports = to_steps ++ steps_part

  abbrev to_refs : List ℕ
  to_refs = to_ports ++ concat port_bytes (all_ports v)

  interfaces-start : length to_interfaces ≡ interfaces_at counts
  interfaces-start = grown to_layers layers_part refl (length-layers 0 v.layers)

  stages-start : length to_stages ≡ stages_at counts
  stages-start = grown to_interfaces interfaces_part interfaces-start (length-interfaces (length (layer_refs v)) v.interfaces)

  locals-start : length to_locals ≡ locals_at counts
  locals-start =
      grown to_stages stages_part stages-start (length-stages (length (layer_refs v) + length (interface_refs v)) 0 0 v.stages)

  types-start : length to_types ≡ types_at counts
  types-start = grown to_locals (concat local_bytes v.locals) locals-start (length-concat local_bytes 7 v.locals (λ d k h. refl))

  steps-start : length to_steps ≡ steps_at counts
  steps-start = grown to_types (concat flex_bytes v.types) types-start (length-concat flex_bytes 2 v.types (λ d k h. refl))

  ports-start : length to_ports ≡ ports_at counts
  ports-start = grown to_steps steps_part steps-start (length-actions (length (stage_ports v)) (all_actions v))

  refs-start : length to_refs ≡ refs_at counts
  refs-start = grown to_ports (concat port_bytes (all_ports v)) ports-start (length-concat port_bytes 9 (all_ports v) (λ d k h. refl))

  pub encode-length : length (encode v) ≡ length_of counts
  unfolding encode
  encode-length = grown to_refs (concat u16_bytes (all_refs v)) refs-start (length-concat u16_bytes 2 (all_refs v) (λ d k h. refl))

  abbrev Here : ℕ → List ℕ → Type 0
  Here = Stands (u8_at (encode v))

  all_here : Here 0 (to_refs ++ concat u16_bytes (all_refs v))
  unfolding encode
  all_here = stands_whole (encode v)

  refs_before : Here 0 to_refs
  refs_before = stands_left to_refs (concat u16_bytes (all_refs v)) all_here

  ports_before : Here 0 to_ports
  ports_before = stands_left to_ports (concat port_bytes (all_ports v)) refs_before

  steps_before : Here 0 to_steps
  steps_before = stands_left to_steps steps_part ports_before

  types_before : Here 0 to_types
  types_before = stands_left to_types (concat flex_bytes v.types) steps_before

  locals_before : Here 0 to_locals
  locals_before = stands_left to_locals (concat local_bytes v.locals) types_before

  stages_before : Here 0 to_stages
  stages_before = stands_left to_stages stages_part locals_before

  interfaces_before : Here 0 to_interfaces
  interfaces_before = stands_left to_interfaces interfaces_part stages_before

  pub counts-read : counts_of (encode v) ≡ counts
  counts-read =
      let s : List ℕ = encode v in
      let x : Here 0 to_layers = stands_left to_layers layers_part interfaces_before in
      let layers : u16_at s 5 ≡ length v.layers = u16_in s 5 x refl refl in
      let interfaces : u16_at s 7 ≡ length v.interfaces = u16_in s 7 x refl refl in
      let stages : u16_at s 9 ≡ length v.stages = u16_in s 9 x refl refl in
      let locals : u16_at s 11 ≡ length v.locals = u16_in s 11 x refl refl in
      let types : u16_at s 13 ≡ length v.types = u16_in s 13 x refl refl in
      let steps : u16_at s 15 ≡ length (all_actions v) = u16_in s 15 x refl refl in
      let ports : u16_at s 17 ≡ length (all_ports v) = u16_in s 17 x refl refl in
      let refs : u16_at s 19 ≡ length (all_refs v) = u16_in s 19 x refl refl in
      λ i. record {
        layers = layers i;
        interfaces = interfaces i;
        stages = stages i;
        locals = locals i;
        types = types i;
        steps = steps i;
        ports = ports i;
        refs = refs i;
      }

  -- where each section stands
  pub layers-stand : Here (layers_at counts) layers_part
  layers-stand = stands_right to_layers layers_part interfaces_before refl

  pub interfaces-stand : Here (interfaces_at counts) interfaces_part
  interfaces-stand = stands_right to_interfaces interfaces_part stages_before (omega (arith, interfaces-start))

  pub stages-stand : Here (stages_at counts) stages_part
  stages-stand = stands_right to_stages stages_part locals_before (omega (arith, stages-start))

  pub locals-stand : Here (locals_at counts) (concat local_bytes v.locals)
  locals-stand = stands_right to_locals (concat local_bytes v.locals) types_before (omega (arith, locals-start))

  pub types-stand : Here (types_at counts) (concat flex_bytes v.types)
  types-stand = stands_right to_types (concat flex_bytes v.types) steps_before (omega (arith, types-start))

  pub steps-stand : Here (steps_at counts) steps_part
  steps-stand = stands_right to_steps steps_part ports_before (omega (arith, steps-start))

  pub ports-stand : Here (ports_at counts) (concat port_bytes (all_ports v))
  ports-stand = stands_right to_ports (concat port_bytes (all_ports v)) refs_before (omega (arith, ports-start))

  -- the lists that lie end to end
  refs_here : Stands (nth_ref (encode v) counts) 0 (all_refs v)
  refs_here =
      refs-read (encode v) counts (all_refs v) (stands_right to_refs (concat u16_bytes (all_refs v)) all_here (omega (arith, refs-start)))

  owner_refs : Stands (nth_ref (encode v) counts) 0 (layer_refs v ++ interface_refs v)
  owner_refs = stands_left (layer_refs v ++ interface_refs v) (concat (λ t. t.declarations) v.stages) refs_here

  pub layer_refs_here : Stands (nth_ref (encode v) counts) 0 (layer_refs v)
  layer_refs_here = stands_left (layer_refs v) (interface_refs v) owner_refs

  pub interface_refs_here : Stands (nth_ref (encode v) counts) (length (layer_refs v)) (interface_refs v)
  interface_refs_here = stands_right (layer_refs v) (interface_refs v) owner_refs (zero-add _)

  pub stage_refs_here : Stands (nth_ref (encode v) counts) (length (layer_refs v) + length (interface_refs v)) (concat (λ t. t.declarations) v.stages)
  stage_refs_here =
      stands_right (layer_refs v ++ interface_refs v) (concat (λ t. t.declarations) v.stages) refs_here
      (omega (arith, length-append (layer_refs v) (interface_refs v)))

  ports_here : Stands (nth_port (encode v) counts) 0 (all_ports v)
  ports_here = ports-read (encode v) counts (all_ports v) ports-stand

  actions_here : Plain v → Stands (nth_action (encode v) counts) 0 (all_actions v)
  actions_here plain =
      actions-read (encode v) counts 0 (length (stage_ports v)) (all_actions v) (stands_move (omega arith) steps-stand)
      (stands_right (stage_ports v) (concat (λ a. a.ports) (all_actions v)) ports_here (zero-add _))
      plain

  layers_here : Stands (nth_layer (encode v) counts) 0 v.layers
  layers_here = layers-read (encode v) counts 0 0 v.layers (stands_move (omega arith) layers-stand) layer_refs_here

  interfaces_here : Stands (nth_interface (encode v) counts) 0 v.interfaces
  interfaces_here =
      interfaces-read (encode v) counts 0 (length (layer_refs v)) v.interfaces (stands_move (omega arith) interfaces-stand) interface_refs_here

  stages_here : Plain v → Stands (nth_stage (encode v) counts) 0 v.stages
  stages_here plain =
      stages-read (encode v) counts 0 (length (layer_refs v) + length (interface_refs v)) 0 0 v.stages
      (stands_move (omega arith) stages-stand)
      stage_refs_here
      (actions_here plain)
      (stands_left (stage_ports v) (concat (λ a. a.ports) (all_actions v)) ports_here)

  here : Plain v → view_of (encode v) counts ≡ v
  unfolding view_of
  here plain =
      λ i. record {
        layers = stands-collect v.layers layers_here i;
        interfaces = stands-collect v.interfaces interfaces_here i;
        stages = stands-collect v.stages (stages_here plain) i;
        locals = stands-collect v.locals (locals-read (encode v) counts v.locals locals-stand) i;
        types = stands-collect v.types (types-read (encode v) counts v.types types-stand) i;
      }

-- every value that is plain is the reading of its own bytes, also where they are no image that is accepted: no number is cut off in them
pub view-encode : (v : Vir) → Plain v → view (encode v) ≡ v
view-encode v plain = ap (view_of (encode v)) (counts-read v) ∙ here v plain
