-- The bytes that a section's values are written as are the bytes of the section.
use Rattle.std.specs.Prelude.{Ok, Some}
use mathlib.Core.Path.{◌≡◌, ◌∙◌, refl, sym, ap, ap₂}
use mathlib.Core.List.{List, [], ◌∷◌}
use Prim.Native.Nat.{ℕ, suc, ◌+◌, ◌*◌, ◌≤◌}
use native.Mathlib.Omega.{arith}
use Rattle.records.specs.declared.layout.Counts.{Counts}
use Rattle.records.specs.declared.layout.Section.{Section}
use Rattle.records.specs.declared.layout.Section.TheVariants.{Layers, Interfaces, Stages, Locals, Types, Steps, Ports}
use Rattle.records.specs.declared.record.StageRecord.{StageRecord}
use Rattle.records.specs.declared.running.Running.{Running}
use Rattle.records.specs.Bytes.{Bytes, u8_at, u16_at}
use Rattle.image.specs.Encode.{u16_bytes, layers_bytes, interfaces_bytes, stages_bytes, actions_bytes, local_bytes, flex_bytes, port_bytes}
use Rattle.judging.specs.Judge.{judge, walk_section}
use Rattle.image.specs.Kind.{concat}
use Rattle.records.specs.Layout.{count_of, layers_at, interfaces_at, stages_at, locals_at, types_at, steps_at, ports_at, refs_at, length_of, place_of}
use Rattle.records.specs.Records.{stage_at}
use Rattle.image.specs.View.{collect}
use Rattle.image.specs.Vir.{Stage}
use Rattle.image.proofs.Clean.{lists_section}
use Rattle.image.proofs.Numbers.{Spells, spells_u8, spells_u16, spells_u32, spells_run}
use Rattle.image.proofs.Gathered.{nth_ref, nth_port, nth_action, nth_flex, nth_local, nth_stage, nth_interface, nth_layer}
use Rattle.image.proofs.Lists.{lists_as, lists_move, lists_concat, ◌then◌}
use Rattle.image.proofs.Turns.{layer-turn, interface-turn, stage-turn, step-turn, port_turn}
use Rattle.image.proofs.Viewing.{length-collect}

-- stages written from equal places
pub stages_from : {a a' b b' d d' : ℕ} (ts : List Stage) → a ≡ a' → b ≡ b' → d ≡ d' → stages_bytes a b d ts ≡ stages_bytes a' b' d' ts
stages_from ts p q r = λ i. stages_bytes (p i) (q i) (r i) ts

module _ (s : List ℕ) (small : Bytes s) (c : Counts) where
  -- a record's bytes stand where it does, and the next one's behind them
  abbrev Spelling : (x : Section) {A : Type 0} → (ℕ → A) → (Running → List A → List ℕ) → Type 0
  Spelling x {A} f out =
      (i : ℕ) (r r' : Running) (e : ℕ) (rest : List A) → judge x s c (place_of c x i) r ≡ Some r'
      → Spells s (place_of c x (suc i)) e (out r' rest) → Spells s (place_of c x i) e (out r (f i ∷ rest))

  spelled : (x : Section) {A : Type 0} (f : ℕ → A) (out : Running → List A → List ℕ) → ((r : Running) → out r [] ≡ []) → Spelling x f out
      → (r q : Running) → walk_section s c x r ≡ Ok q
      → Spells s (place_of c x 0) (place_of c x (count_of c x)) (out r (collect f 0 (count_of c x)))
  spelled x f out = lists_section s c x (u8_at s) (λ i r. place_of c x i) f out

  layer_spelled : Spelling Layers (nth_layer s c) (λ r l. layers_bytes r.refs l)
  unfolding layers_bytes
  layer_spelled i r r' e rest j l =
      let p : ℕ = place_of c Layers i in
      let t = layer-turn s c p r r' j in
      let n = sym (length-collect (nth_ref s c) (u16_at s (p + 2)) (u16_at s (p + 2 + 2))) in
      spells_u16 s small p (p + 2) refl refl
      then spells_run s small (p + 2) (place_of c Layers (suc i)) t.first n (omega arith)
      then lists_as (ap (λ (k : ℕ). layers_bytes k rest) (sym t.refs ∙ ap (λ (k : ℕ). r.refs + k) n)) l

  pub layers_spelled : (r q : Running) → walk_section s c Layers r ≡ Ok q
      → Spells s (layers_at c) (interfaces_at c) (layers_bytes r.refs (collect (nth_layer s c) 0 c.layers))
  unfolding layers_bytes
  layers_spelled r q w =
      lists_move (omega arith) refl (spelled Layers (nth_layer s c) (λ r l. layers_bytes r.refs l) (λ r. refl) layer_spelled r q w)

  interface_spelled : Spelling Interfaces (nth_interface s c) (λ r l. interfaces_bytes r.refs l)
  unfolding interfaces_bytes
  interface_spelled i r r' e rest j l =
      let p : ℕ = place_of c Interfaces i in
      let t = interface-turn s c p r r' j in
      let n = sym (length-collect (nth_ref s c) (u16_at s (p + 5)) (u16_at s (p + 5 + 2))) in
      spells_u16 s small p (p + 2) refl refl
      then spells_u8 s small (p + 2) (p + 3) t.kind (omega arith)
      then spells_u16 s small (p + 3) (p + 5) refl (omega arith)
      then spells_run s small (p + 5) (place_of c Interfaces (suc i)) t.first n (omega arith)
      then lists_as (ap (λ (k : ℕ). interfaces_bytes k rest) (sym t.refs ∙ ap (λ (k : ℕ). r.refs + k) n)) l

  pub interfaces_spelled : (r q : Running) → walk_section s c Interfaces r ≡ Ok q
      → Spells s (interfaces_at c) (stages_at c) (interfaces_bytes r.refs (collect (nth_interface s c) 0 c.interfaces))
  unfolding interfaces_bytes
  interfaces_spelled r q w =
      lists_move (omega arith) refl
      (spelled Interfaces (nth_interface s c) (λ r l. interfaces_bytes r.refs l) (λ r. refl) interface_spelled r q w)

  stage_spelled : Spelling Stages (nth_stage s c) (λ r l. stages_bytes r.refs r.steps r.ports l)
  unfolding stages_bytes
  stage_spelled i r r' e rest j l =
      let p : ℕ = place_of c Stages i in
      let g : StageRecord = stage_at s p in
      let t = stage-turn s c p r r' j in
      let ports = sym (length-collect (nth_port s c) g.ports.first g.ports.count) in
      let refs = sym (length-collect (nth_ref s c) g.declarations.first g.declarations.count) in
      let steps = sym (length-collect (nth_action s c) g.steps.first g.steps.count) in
      let payload = sym (length-collect (nth_port s c) (g.ports.first + g.ports.count) g.payload) in
      let next =
      stages_from rest (sym t.refs ∙ ap (λ (k : ℕ). r.refs + k) refs) (sym t.steps ∙ ap (λ (k : ℕ). r.steps + k) steps)
      (sym t.ports ∙ ap₂ (λ (k m : ℕ). r.ports + k + m) ports payload) in
      spells_u32 s small p (p + 4) refl refl
      then spells_u16 s small (p + 4) (p + 6) refl (omega arith)
      then spells_u16 s small (p + 6) (p + 8) refl (omega arith)
      then spells_u8 s small (p + 8) (p + 9) t.header (omega arith)
      then spells_u32 s small (p + 9) (p + 13) refl (omega arith)
      then spells_run s small (p + 13) (p + 17) t.ports-first ports (omega arith)
      then spells_run s small (p + 17) (p + 21) t.refs-first refs (omega arith)
      then spells_run s small (p + 21) (p + 25) t.steps_first steps (omega arith)
      then spells_u16 s small (p + 25) (p + 27) refl (omega arith)
      then spells_u16 s small (p + 27) (p + 29) refl (omega arith)
      then spells_u8 s small (p + 29) (place_of c Stages (suc i)) payload (omega arith)
      then lists_as next l

  pub stages_spelled : (r q : Running) → walk_section s c Stages r ≡ Ok q
      → Spells s (stages_at c) (locals_at c) (stages_bytes r.refs r.steps r.ports (collect (nth_stage s c) 0 c.stages))
  unfolding stages_bytes
  stages_spelled r q w =
      lists_move (omega arith) refl
      (spelled Stages (nth_stage s c) (λ r l. stages_bytes r.refs r.steps r.ports l) (λ r. refl) stage_spelled r q w)

  -- locals, types and refs are written as they are read, whatever they are
  local_spelled : (i : ℕ) → Spells s (place_of c Locals i) (place_of c Locals (suc i)) (local_bytes (nth_local s c i))
  local_spelled i =
      let p : ℕ = place_of c Locals i in
      spells_u32 s small p (p + 4) refl refl
      then spells_u16 s small (p + 4) (p + 6) refl (omega arith)
      then spells_u8 s small (p + 6) (place_of c Locals (suc i)) refl (omega arith)

  pub locals_spelled : Spells s (locals_at c) (types_at c) (concat local_bytes (collect (nth_local s c) 0 c.locals))
  locals_spelled =
      lists_move (omega arith) (omega arith)
      (lists_concat (u8_at s) (nth_local s c) local_bytes (place_of c Locals) local_spelled 0 c.locals)

  type_spelled : (i : ℕ) → Spells s (place_of c Types i) (place_of c Types (suc i)) (flex_bytes (nth_flex s c i))
  type_spelled i =
      let p : ℕ = place_of c Types i in
      spells_u8 s small p (p + 1) refl refl then spells_u8 s small (p + 1) (place_of c Types (suc i)) refl (omega arith)

  pub types_spelled : Spells s (types_at c) (steps_at c) (concat flex_bytes (collect (nth_flex s c) 0 c.types))
  types_spelled =
      lists_move (omega arith) (omega arith)
      (lists_concat (u8_at s) (nth_flex s c) flex_bytes (place_of c Types) type_spelled 0 c.types)

  pub refs_spelled : Spells s (refs_at c) (length_of c) (concat u16_bytes (collect (nth_ref s c) 0 c.refs))
  refs_spelled =
      lists_move (omega arith) (omega arith)
      (lists_concat (u8_at s) (nth_ref s c) u16_bytes (λ i. refs_at c + 2 * i)
      (λ i. spells_u16 s small (refs_at c + 2 * i) (refs_at c + 2 * suc i) refl (omega arith))
      0 c.refs)

  step_spelled : c.layers ≤ 64 → Spelling Steps (nth_action s c) (λ r l. actions_bytes r.ports l)
  unfolding actions_bytes
  step_spelled few i r r' e rest j l =
      let p : ℕ = place_of c Steps i in
      let t = step-turn s c p r r' few j in
      let n = sym (length-collect (nth_port s c) (u16_at s (p + 7)) (u16_at s (p + 7 + 2))) in
      spells_u8 s small p (p + 1) t.tag refl
      then spells_u32 s small (p + 1) (p + 5) t.a (omega arith)
      then spells_u16 s small (p + 5) (p + 7) t.b (omega arith)
      then spells_run s small (p + 7) (place_of c Steps (suc i)) t.first n (omega arith)
      then lists_as (ap (λ (k : ℕ). actions_bytes k rest) (sym t.ports ∙ ap (λ (k : ℕ). r.ports + k) n)) l

  pub steps_spelled : c.layers ≤ 64 → (r q : Running) → walk_section s c Steps r ≡ Ok q
      → Spells s (steps_at c) (ports_at c) (actions_bytes r.ports (collect (nth_action s c) 0 c.steps))
  unfolding actions_bytes
  steps_spelled few r q w =
      lists_move (omega arith) refl
      (spelled Steps (nth_action s c) (λ r l. actions_bytes r.ports l) (λ r. refl) (step_spelled few) r q w)

  port_spelled : Spelling Ports (nth_port s c) (λ r l. concat port_bytes l)
  unfolding concat
  port_spelled i r r' e rest j l =
      let p : ℕ = place_of c Ports i in
      let t = port_turn s c p r r' j in
      spells_u16 s small p (p + 2) refl refl
      then spells_u8 s small (p + 2) (p + 3) t.kind (omega arith)
      then spells_u32 s small (p + 3) (p + 7) t.a (omega arith)
      then spells_u16 s small (p + 7) (place_of c Ports (suc i)) t.b (omega arith)
      then l

  pub ports_spelled : (r q : Running) → walk_section s c Ports r ≡ Ok q
      → Spells s (ports_at c) (refs_at c) (concat port_bytes (collect (nth_port s c) 0 c.ports))
  unfolding concat
  ports_spelled r q w =
      lists_move (omega arith) refl (spelled Ports (nth_port s c) (λ r l. concat port_bytes l) (λ r. refl) port_spelled r q w)
