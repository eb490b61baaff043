-- What is read from the bytes of clean records is written out as the same bytes.
use Rattle.std.specs.Prelude.{Ok}
use mathlib.Core.Path.{◌≡◌, ◌∙◌, refl, sym, ap, ap₂}
use mathlib.Core.Bool.{Bool, true, ◌&&◌}
use mathlib.Core.List.{List, [], ◌∷◌, ◌++◌}
use Prim.Native.Nat.{ℕ, ◌+◌, ◌≤◌}
use native.Mathlib.Omega.{arith}
use lib.Dec.{eqb}
use lib.ListN.{length}
use borrow.Author.Tests.{eqb-true}
use Rattle.records.specs.declared.layout.Counts.{Counts}
use Rattle.records.specs.declared.layout.Section.TheVariants.{Layers, Interfaces, Locals, Types, Steps, Ports}
use Rattle.records.specs.declared.running.Running.{Running}
use Rattle.records.specs.Bytes.{Bytes, u8_at, u16_at}
use Rattle.image.specs.Check.{marked, owned}
use Rattle.image.specs.Encode.{u16_bytes, port_bytes, interfaces_bytes, stages_bytes, actions_bytes, all_actions, stage_ports, all_ports, layer_refs, interface_refs, all_refs, count_bytes, encode}
use Rattle.judging.specs.Judge.{walk_all}
use Rattle.image.specs.Kind.{concat}
use Rattle.records.specs.Layout.{counts_of, sections, length_of, interfaces_at, stages_at, locals_at, steps_at, ports_at, refs_at, Sized}
use Rattle.image.specs.View.{collect, view_of, view}
use Rattle.image.specs.Vir.{Action}
use Rattle.image.proofs.Clean.{kept, Through, through}
use Rattle.image.proofs.Numbers.{Spells, spells_u8, spells_u16}
use Rattle.image.proofs.Gathered.{nth_ref, nth_port, nth_action, nth_flex, nth_local, nth_stage, nth_interface, nth_layer, layer-refs, interface-refs, stage-refs, stage-steps, stage-ports, step-ports}
use Rattle.records.proofs.Guards.{left_true, right_true}
use Rattle.image.proofs.Lists.{Lists, lists_as, lists_move, lists_length, lists_unique, lists_all, lists_whole, ◌then◌}
use Rattle.image.proofs.Spelled.{layers_spelled, interfaces_spelled, stages_from, stages_spelled, locals_spelled, types_spelled, steps_spelled, ports_spelled, refs_spelled}
use Rattle.image.proofs.Turns.{layer-turn, interface-turn, local-turn, type-turn, step-turn, port_turn}
use Rattle.image.proofs.Viewing.{length-collect}

-- the running places before the first record
abbrev start : Running
start = record { refs = 0; steps = 0; ports = 0 }

module _ (s : List ℕ) (c : Counts) (few : c.layers ≤ 64) (r : Running) (t : Through s c start r) (own : owned c r ≡ true) where
  -- layers and interfaces lay refs alone ..
  no_steps : t.interfaces.steps ≡ 0
  no_steps =
      kept s c Interfaces (λ q. q.steps) (λ p q q' j. (interface-turn s c p q q' j).steps) t.layers t.interfaces t.by-interfaces
      ∙ kept s c Layers (λ q. q.steps) (λ p q q' j. (layer-turn s c p q q' j).steps) start t.layers t.by-layers

  no_ports : t.interfaces.ports ≡ 0
  no_ports =
      kept s c Interfaces (λ q. q.ports) (λ p q q' j. (interface-turn s c p q q' j).ports) t.layers t.interfaces t.by-interfaces
      ∙ kept s c Layers (λ q. q.ports) (λ p q q' j. (layer-turn s c p q q' j).ports) start t.layers t.by-layers

  -- .. locals and types nothing ..
  unmoved : (place : Running → ℕ) → place t.types ≡ place t.stages
  unmoved place =
      kept s c Types place (λ p q q' j. sym (ap place (type-turn s c p q q' j))) t.locals t.types t.by-types
      ∙ kept s c Locals place (λ p q q' j. sym (ap place (local-turn s c p q q' j))) t.stages t.locals t.by-locals

  -- .. steps ports alone, and ports nothing, so the counts are the places behind their owners
  ports_still : (place : Running → ℕ) → place r ≡ place t.steps
  ports_still place = kept s c Ports place (λ p q q' j. sym (ap place (port_turn s c p q q' j).same)) t.steps r t.by-ports

  refs_end : t.stages.refs ≡ c.refs
  refs_end =
      sym (unmoved (λ q. q.refs))
      ∙ sym (kept s c Steps (λ q. q.refs) (λ p q q' j. (step-turn s c p q q' few j).refs) t.types t.steps t.by-steps)
      ∙ sym (ports_still (λ q. q.refs))
      ∙ eqb-true r.refs c.refs (left_true _ (eqb r.steps c.steps) (left_true _ (eqb r.ports c.ports) own))

  steps_end : t.stages.steps ≡ c.steps
  steps_end =
      sym (unmoved (λ q. q.steps))
      ∙ sym (kept s c Steps (λ q. q.steps) (λ p q q' j. (step-turn s c p q q' few j).steps) t.types t.steps t.by-steps)
      ∙ sym (ports_still (λ q. q.steps))
      ∙ eqb-true r.steps c.steps (right_true (eqb r.refs c.refs) _ (left_true _ (eqb r.ports c.ports) own))

  ports_end : t.steps.ports ≡ c.ports
  ports_end =
      sym (ports_still (λ q. q.ports))
      ∙ eqb-true r.ports c.ports (right_true (eqb r.refs c.refs && eqb r.steps c.steps) _ own)

  -- what is laid end to end is the section
  in_layers : Lists (nth_ref s c) 0 t.layers.refs (layer_refs (view_of s c))
  unfolding view_of
  in_layers = layer-refs s c start t.layers t.by-layers

  in_interfaces : Lists (nth_ref s c) t.layers.refs t.interfaces.refs (interface_refs (view_of s c))
  unfolding view_of
  in_interfaces = interface-refs s c t.layers t.interfaces t.by-interfaces

  refs_are : all_refs (view_of s c) ≡ collect (nth_ref s c) 0 c.refs
  unfolding view_of
  refs_are = lists_all (in_layers then in_interfaces then stage-refs s c t.interfaces t.stages t.by-stages) refl refs_end

  pub actions_are : all_actions (view_of s c) ≡ collect (nth_action s c) 0 c.steps
  unfolding view_of
  actions_are = lists_all (stage-steps s c t.interfaces t.stages t.by-stages) no_steps steps_end

  in_stages : Lists (nth_port s c) 0 t.types.ports (stage_ports (view_of s c))
  unfolding view_of
  in_stages = lists_move no_ports (sym (unmoved (λ q. q.ports))) (stage-ports s c t.interfaces t.stages t.by-stages)

  pub ports_are : all_ports (view_of s c) ≡ collect (nth_port s c) 0 c.ports
  ports_are =
      ap (λ (l : List Action). stage_ports (view_of s c) ++ concat (λ a. a.ports) l) actions_are
      ∙ lists_all (in_stages then step-ports s c few t.types t.steps t.by-steps) refl ports_end

-- the length of a list that is so many values
counted : {A : Type 0} (h : ℕ → A) (n : ℕ) {l : List A} → l ≡ collect h 0 n → n ≡ length l
counted h n e = sym (ap length e ∙ length-collect h 0 n)

module _ (s : List ℕ) (small : Bytes s) where
  abbrev c : Counts
  c = counts_of s

  mark_spelled : marked s ≡ true → Spells s 0 5 ((86 ∷ 73 ∷ 82 ∷ []) ++ u16_bytes 1)
  mark_spelled m =
      let a : Bool = eqb (u8_at s 0) 86 in
      let b : Bool = eqb (u8_at s 1) 73 in
      let d : Bool = eqb (u8_at s 2) 82 in
      let three : (a && b && d) ≡ true = left_true (a && b && d) (eqb (u16_at s 3) 1) m in
      let two : (a && b) ≡ true = left_true (a && b) d three in
      spells_u8 s small 0 1 (eqb-true (u8_at s 0) 86 (left_true a b two)) refl
      then spells_u8 s small 1 2 (eqb-true (u8_at s 1) 73 (right_true a b two)) refl
      then spells_u8 s small 2 3 (eqb-true (u8_at s 2) 82 (right_true (a && b) d three)) refl
      then spells_u16 s small 3 5 (eqb-true (u16_at s 3) 1 (right_true (a && b && d) _ m)) refl

  module _ (few : c.layers ≤ 64) (r : Running) (t : Through s c start r) (own : owned c r ≡ true) where
    counts_spelled : Spells s 5 21 (count_bytes (view s))
    unfolding view_of
    counts_spelled =
        spells_u16 s small 5 7 (counted (nth_layer s c) c.layers refl) refl
        then spells_u16 s small 7 9 (counted (nth_interface s c) c.interfaces refl) refl
        then spells_u16 s small 9 11 (counted (nth_stage s c) c.stages refl) refl
        then spells_u16 s small 11 13 (counted (nth_local s c) c.locals refl) refl
        then spells_u16 s small 13 15 (counted (nth_flex s c) c.types refl) refl
        then spells_u16 s small 15 17 (counted (nth_action s c) c.steps (actions_are s c few r t own)) refl
        then spells_u16 s small 17 19 (counted (nth_port s c) c.ports (ports_are s c few r t own)) refl
        then spells_u16 s small 19 21 (counted (nth_ref s c) c.refs (refs_are s c few r t own)) refl

    layers_end : t.layers.refs ≡ length (layer_refs (view s))
    layers_end = omega (arith, lists_length (in_layers s c few r t own))

    interfaces_end : t.interfaces.refs ≡ length (layer_refs (view s)) + length (interface_refs (view s))
    interfaces_end = omega (arith, layers_end, lists_length (in_interfaces s c few r t own))

    stages_end : t.types.ports ≡ length (stage_ports (view s))
    stages_end = omega (arith, lists_length (in_stages s c few r t own))

    interfaces_part : Spells s (interfaces_at c) (stages_at c) (interfaces_bytes (length (layer_refs (view s))) (view s).interfaces)
    unfolding view_of
    interfaces_part =
        lists_as (ap (λ (k : ℕ). interfaces_bytes k (view s).interfaces) layers_end)
        (interfaces_spelled s small c t.layers t.interfaces t.by-interfaces)

    stages_part : Spells s (stages_at c) (locals_at c)
        (stages_bytes (length (layer_refs (view s)) + length (interface_refs (view s))) 0 0 (view s).stages)
    unfolding view_of
    stages_part =
        lists_as (stages_from (view s).stages interfaces_end (no_steps s c few r t own) (no_ports s c few r t own))
        (stages_spelled s small c t.interfaces t.stages t.by-stages)

    steps_part : Spells s (steps_at c) (ports_at c) (actions_bytes (length (stage_ports (view s))) (all_actions (view s)))
    steps_part =
        lists_as (ap₂ actions_bytes stages_end (sym (actions_are s c few r t own)))
        (steps_spelled s small c few t.types t.steps t.by-steps)

    ports_part : Spells s (ports_at c) (refs_at c) (concat port_bytes (all_ports (view s)))
    ports_part = lists_as (ap (concat port_bytes) (sym (ports_are s c few r t own))) (ports_spelled s small c t.steps r t.by-ports)

    refs_part : Spells s (refs_at c) (length_of c) (concat u16_bytes (all_refs (view s)))
    refs_part = lists_as (ap (concat u16_bytes) (sym (refs_are s c few r t own))) (refs_spelled s small c)

    spelled : marked s ≡ true → Spells s 0 (length_of c) (encode (view s))
    unfolding encode view_of
    spelled m =
        mark_spelled m
        then counts_spelled
        then layers_spelled s small c start t.layers t.by-layers
        then interfaces_part
        then stages_part
        then locals_spelled s small c
        then types_spelled s small c
        then steps_part
        then ports_part
        then refs_part

-- an image is the bytes of its own reading
pub encode-view : (s : List ℕ) {r : Running} → Bytes s → Sized s (counts_of s) → marked s ≡ true
    → walk_all s (counts_of s) sections (record { refs = 0; steps = 0; ports = 0 }) ≡ Ok r → owned (counts_of s) r ≡ true
    → encode (view s) ≡ s
encode-view s {r} small z m w own =
    lists_unique
    (spelled s small z.layers r (through s (counts_of s) start r w) own m)
    (lists_move refl z.long (lists_whole 0 s))
