-- The lists of a section's records, one behind the other, are the refs, steps or ports from the running place before to the one behind.
use Rattle.std.specs.Prelude.{Ok, Some}
use mathlib.Core.Path.{◌≡◌, refl, ap}
use mathlib.Core.List.{List, ◌++◌}
use Prim.Native.Nat.{ℕ, ◌+◌, ◌*◌, ◌≤◌}
use native.Mathlib.Omega.{arith}
use Rattle.records.specs.declared.layout.Counts.{Counts}
use Rattle.records.specs.declared.layout.Section.{Section}
use Rattle.records.specs.declared.layout.Section.TheVariants.{Layers, Interfaces, Stages, Steps}
use Rattle.records.specs.declared.running.Running.{Running}
use Rattle.records.specs.Bytes.{u16_at}
use Rattle.judging.specs.Judge.{judge, walk_section}
use Rattle.image.specs.Kind.{concat}
use Rattle.records.specs.Layout.{count_of, layers_at, interfaces_at, stages_at, locals_at, types_at, steps_at, ports_at, refs_at, place_of}
use Rattle.records.specs.Records.{layer_at, interface_at, stage_at, local_at, type_at, step_at, port_at}
use Rattle.image.specs.View.{collect, layer_of_record, interface_of_record, stage_of_record, local_of_record, flex_of_record, action_of_record, port_of_record}
use Rattle.image.specs.Vir.{Layer, Interface, Port, Action, Stage, Local, Flex}
use Rattle.image.proofs.Clean.{lists_section}
use Rattle.image.proofs.Lists.{Lists, lists_move, lists_collect, ◌then◌}
use Rattle.image.proofs.Turns.{layer-turn, interface-turn, stage-turn, step-turn}

-- a list that starts at the running place
run_lists : {A : Type 0} (h : ℕ → A) (count : ℕ) {first running next : ℕ} → first ≡ running → running + count ≡ next
    → Lists h running next (collect h first count)
run_lists h n {first} p q = lists_move p (omega arith) (lists_collect h first n)

module _ (s : List ℕ) (c : Counts) where
  -- the k-th of each section
  abbrev pub nth_ref : ℕ → ℕ
  nth_ref k = u16_at s (refs_at c + 2 * k)

  abbrev pub nth_port : ℕ → Port
  nth_port k = port_of_record s c (port_at s (ports_at c + 9 * k))

  abbrev pub nth_action : ℕ → Action
  nth_action k = action_of_record s c (step_at s (steps_at c + 11 * k))

  abbrev pub nth_flex : ℕ → Flex
  nth_flex k = flex_of_record (type_at s (types_at c + 2 * k))

  abbrev pub nth_local : ℕ → Local
  nth_local k = local_of_record (local_at s (locals_at c + 7 * k))

  abbrev pub nth_stage : ℕ → Stage
  nth_stage k = stage_of_record s c (stage_at s (stages_at c + 30 * k))

  abbrev pub nth_interface : ℕ → Interface
  nth_interface k = interface_of_record s c (interface_at s (interfaces_at c + 9 * k))

  abbrev pub nth_layer : ℕ → Layer
  nth_layer k = layer_of_record s c (layer_at s (layers_at c + 6 * k))

  gathered : (x : Section) {A B : Type 0} (h : ℕ → B) (place : Running → ℕ) (f : ℕ → A) (g : A → List B)
      → ((i : ℕ) (r r' : Running) → judge x s c (place_of c x i) r ≡ Some r' → Lists h (place r) (place r') (g (f i)))
      → (r q : Running) → walk_section s c x r ≡ Ok q → Lists h (place r) (place q) (concat g (collect f 0 (count_of c x)))
  unfolding concat
  gathered x h place f g one =
      lists_section s c x h (λ i r. place r) f (λ r l. concat g l) (λ r. refl) (λ i r r' e rest j l. one i r r' j then l)

  pub layer-refs : (r q : Running) → walk_section s c Layers r ≡ Ok q
      → Lists nth_ref r.refs q.refs (concat (λ l. l.stages) (collect nth_layer 0 c.layers))
  layer-refs =
      gathered Layers nth_ref (λ r. r.refs) nth_layer (λ l. l.stages)
      (λ i r r' j.
      let t = layer-turn s c (place_of c Layers i) r r' j in
      run_lists nth_ref (layer_at s (place_of c Layers i)).stages.count t.first t.refs)

  pub interface-refs : (r q : Running) → walk_section s c Interfaces r ≡ Ok q
      → Lists nth_ref r.refs q.refs (concat (λ i. i.list) (collect nth_interface 0 c.interfaces))
  interface-refs =
      gathered Interfaces nth_ref (λ r. r.refs) nth_interface (λ i. i.list)
      (λ i r r' j.
      let t = interface-turn s c (place_of c Interfaces i) r r' j in
      run_lists nth_ref (interface_at s (place_of c Interfaces i)).list.count t.first t.refs)

  pub stage-refs : (r q : Running) → walk_section s c Stages r ≡ Ok q
      → Lists nth_ref r.refs q.refs (concat (λ t. t.declarations) (collect nth_stage 0 c.stages))
  stage-refs =
      gathered Stages nth_ref (λ r. r.refs) nth_stage (λ t. t.declarations)
      (λ i r r' j.
      let t = stage-turn s c (place_of c Stages i) r r' j in
      run_lists nth_ref (stage_at s (place_of c Stages i)).declarations.count t.refs-first t.refs)

  pub stage-steps : (r q : Running) → walk_section s c Stages r ≡ Ok q
      → Lists nth_action r.steps q.steps (concat (λ t. t.steps) (collect nth_stage 0 c.stages))
  stage-steps =
      gathered Stages nth_action (λ r. r.steps) nth_stage (λ t. t.steps)
      (λ i r r' j.
      let t = stage-turn s c (place_of c Stages i) r r' j in
      run_lists nth_action (stage_at s (place_of c Stages i)).steps.count t.steps_first t.steps)

  -- the transfer's data port stands behind the header's
  pub stage-ports : (r q : Running) → walk_section s c Stages r ≡ Ok q
      → Lists nth_port r.ports q.ports (concat (λ t. t.ports ++ t.payload) (collect nth_stage 0 c.stages))
  stage-ports =
      gathered Stages nth_port (λ r. r.ports) nth_stage (λ t. t.ports ++ t.payload)
      (λ i r r' j.
      let t = stage-turn s c (place_of c Stages i) r r' j in
      let n : ℕ = (stage_at s (place_of c Stages i)).ports.count in
      run_lists nth_port n t.ports-first refl
      then run_lists nth_port (stage_at s (place_of c Stages i)).payload (ap (λ (k : ℕ). k + n) t.ports-first) t.ports)

  pub step-ports : c.layers ≤ 64 → (r q : Running) → walk_section s c Steps r ≡ Ok q
      → Lists nth_port r.ports q.ports (concat (λ a. a.ports) (collect nth_action 0 c.steps))
  step-ports few =
      gathered Steps nth_port (λ r. r.ports) nth_action (λ a. a.ports)
      (λ i r r' j.
      let t = step-turn s c (place_of c Steps i) r r' few j in
      run_lists nth_port (step_at s (place_of c Steps i)).ports.count t.first t.ports)
