-- No record that is written from what fits is at fault: the walk over each section, and where its lists end.
use Rattle.std.specs.Prelude.{None, Ok, Option, Result, Some}
use mathlib.Core.Path.{◌≡◌, ◌∙◌, refl, ap}
use mathlib.Core.Bool.{Bool as Truth, true, cond}
use mathlib.Core.List.{List, [], ◌∷◌, ◌++◌}
use Prim.Native.Nat.{ℕ, suc, ◌+◌, ◌≤◌}
use native.Mathlib.Omega.{arith}
use lib.ListN.{length, length-append}
use Rattle.records.specs.declared.layout.Counts.{Counts}
use Rattle.records.specs.declared.layout.Section.{Section}
use Rattle.records.specs.declared.layout.Section.TheVariants.{Layers, Interfaces, Stages, Locals, Types, Steps, Ports}
use Rattle.records.specs.declared.running.Running.{Running}
use Rattle.records.specs.Bytes.{u8_at}
use Rattle.judging.specs.Judge.{judge_layer, judge_interface, judge_stage, judge_local, judge_type, judge_step, judge_port, judge, after, walk}
use Rattle.records.specs.Layout.{size_of}
use Rattle.records.proofs.Guards.{left_true, right_true}
use Rattle.image.specs.Encode.{layers_bytes, interfaces_bytes, stages_bytes, local_bytes, flex_bytes, actions_bytes, port_bytes}
use Rattle.image.specs.Kind.{all, concat}
use Rattle.image.specs.Vir.{Layer, Interface, Port, Action, Stage, Local, Flex}
use Rattle.image.proofs.Gathered.{nth_ref}
use Rattle.image.specs.Stands.{Stands}
use Rattle.image.proofs.Standing.{stands_left, stands_right, stands_past}
use Rattle.image.proofs.Written.{layer-written, interface-written, stage-written, local-written, type-written, step-written, port_written}
use Rattle.wellformed.specs.WellFormed.{layer_fits, interface_fits, stage_fits, local_fits, action_fits, port_fits, flex_fits}
use Rattle.wellformed.proofs.Good.{layer_good_lem, interface_good_lem, stage_good_lem, local_good_lem, step_good_lem, port_good_lem}
use Rattle.records.specs.declared.running.Fault.{Fault}

-- running places
abbrev pub at : ℕ → ℕ → ℕ → Running
at refs steps ports = record { refs = refs; steps = steps; ports = ports }

-- a record that is good, and the walk behind it
walk-on : (f : ℕ → Running → Option Running) (size n p : ℕ) (r r' : Running) {w : (Result Running Fault)} → f p r ≡ Some r' → walk f size n (p + size) r' ≡ w
    → walk f size (suc n) p r ≡ w
unfolding walk
walk-on f size n p r r' e rest = ap (λ (j : Option Running). after p j (λ q. walk f size n (p + size) q)) e ∙ rest

passes : {good : Truth} (next : Running) → good ≡ true → cond good (Some next) None ≡ Some next
passes next h = ap (λ (b : Truth). cond b (Some next) None) h

module _ (s : List ℕ) (c : Counts) where
  -- records that lay nothing
  still : {A : Type 0} (x : Section) (g : A → List ℕ) (f : A → Truth) (r : Running) → ((y : A) → length (g y) ≡ size_of x)
      → ((p : ℕ) (y : A) → Stands (u8_at s) p (g y) → f y ≡ true → judge x s c p r ≡ Some r)
      → (p : ℕ) (l : List A) → Stands (u8_at s) p (concat g l) → all f l ≡ true → walk (judge x s c) (size_of x) (length l) p r ≡ Ok r
  unfolding walk concat all
  still x g f r size one p [] st fits = refl
  still x g f r size one p (y ∷ l) st fits =
      walk-on (judge x s c) (size_of x) (length l) p r r
      (one p y (stands_left (g y) (concat g l) st) (left_true (f y) (all f l) fits))
      (still x g f r size one (p + size_of x) l (stands_right (g y) (concat g l) st (ap (λ (n : ℕ). p + n) (size y))) (right_true (f y) (all f l) fits))

  pub locals-clean : (r : Running) (p : ℕ) (l : List Local) → Stands (u8_at s) p (concat local_bytes l) → all (local_fits c) l ≡ true
      → walk (judge Locals s c) 7 (length l) p r ≡ Ok r
  locals-clean r =
      still Locals local_bytes (local_fits c) r (λ y. refl)
      (λ p y x h. ap (judge_local c r) (local-written s p y x) ∙ passes r (local_good_lem c y h))

  pub types-clean : (r : Running) (p : ℕ) (l : List Flex) → Stands (u8_at s) p (concat flex_bytes l) → all flex_fits l ≡ true
      → walk (judge Types s c) 2 (length l) p r ≡ Ok r
  types-clean r = still Types flex_bytes flex_fits r (λ y. refl) (λ p y x h. ap (judge_type r) (type-written s p y x) ∙ passes r h)

  pub ports-clean : (r : Running) (p : ℕ) (l : List Port) → Stands (u8_at s) p (concat port_bytes l) → all (port_fits c) l ≡ true
      → walk (judge Ports s c) 9 (length l) p r ≡ Ok r
  ports-clean r =
      still Ports port_bytes (port_fits c) r (λ y. refl)
      (λ p y x h. ap (judge_port c r) (port_written s p y x) ∙ passes r (port_good_lem c y h))

  -- layers and interfaces lay refs
  module _ (end : ℕ) (room : end ≤ c.refs) where
    pub layers-clean : (p refs : ℕ) (l : List Layer) → Stands (u8_at s) p (layers_bytes refs l)
        → Stands (nth_ref s c) refs (concat (λ y. y.stages) l) → all (layer_fits c) l ≡ true → refs + length (concat (λ y. y.stages) l) ≡ end
        → walk (judge Layers s c) 6 (length l) p (at refs 0 0) ≡ Ok (at end 0 0)
    unfolding walk layers_bytes concat all
    layers-clean p refs [] x r fits e = ap (λ (n : ℕ). Ok (at n 0 0)) (omega arith)
    layers-clean p refs (y ∷ l) x r fits e =
        let more : List ℕ = concat (λ y. y.stages) l in
        let sum : length (y.stages ++ more) ≡ length y.stages + length more = length-append y.stages more in
        let next : ℕ = refs + length y.stages in
        let good =
        layer_good_lem s c (at refs 0 0) y (left_true (layer_fits c y) (all (layer_fits c) l) fits) (stands_left y.stages more r) (omega arith) in
        walk-on (judge Layers s c) 6 (length l) p (at refs 0 0) (at next 0 0)
        (ap (judge_layer s c (at refs 0 0)) (layer-written s p refs y l x) ∙ passes (at next 0 0) good)
        (layers-clean (p + 6) next l (stands_past 6 x refl) (stands_right y.stages more r refl)
        (right_true (layer_fits c y) (all (layer_fits c) l) fits) (omega arith))

    pub interfaces-clean : (p refs : ℕ) (l : List Interface) → Stands (u8_at s) p (interfaces_bytes refs l)
        → Stands (nth_ref s c) refs (concat (λ y. y.list) l) → all (interface_fits c) l ≡ true → refs + length (concat (λ y. y.list) l) ≡ end
        → walk (judge Interfaces s c) 9 (length l) p (at refs 0 0) ≡ Ok (at end 0 0)
    unfolding walk interfaces_bytes concat all
    interfaces-clean p refs [] x r fits e = ap (λ (n : ℕ). Ok (at n 0 0)) (omega arith)
    interfaces-clean p refs (y ∷ l) x r fits e =
        let more : List ℕ = concat (λ y. y.list) l in
        let sum : length (y.list ++ more) ≡ length y.list + length more = length-append y.list more in
        let next : ℕ = refs + length y.list in
        let good =
        interface_good_lem s c (at refs 0 0) y (left_true (interface_fits c y) (all (interface_fits c) l) fits) (stands_left y.list more r) (omega arith) in
        walk-on (judge Interfaces s c) 9 (length l) p (at refs 0 0) (at next 0 0)
        (ap (judge_interface s c (at refs 0 0)) (interface-written s p refs y l x) ∙ passes (at next 0 0) good)
        (interfaces-clean (p + 9) next l (stands_past 9 x refl) (stands_right y.list more r refl)
        (right_true (interface_fits c y) (all (interface_fits c) l) fits) (omega arith))

  -- stages lay refs, steps and ports
  module _ (end-refs end-steps end-ports : ℕ) (room-refs : end-refs ≤ c.refs) (room-steps : end-steps ≤ c.steps) (room-ports : end-ports ≤ c.ports) where
    pub stages-clean : (p refs steps ports : ℕ) (l : List Stage) → Stands (u8_at s) p (stages_bytes refs steps ports l)
        → Stands (nth_ref s c) refs (concat (λ y. y.declarations) l) → all (stage_fits c) l ≡ true
        → refs + length (concat (λ y. y.declarations) l) ≡ end-refs → steps + length (concat (λ y. y.steps) l) ≡ end-steps
        → ports + length (concat (λ y. y.ports ++ y.payload) l) ≡ end-ports
        → walk (judge Stages s c) 30 (length l) p (at refs steps ports) ≡ Ok (at end-refs end-steps end-ports)
    unfolding walk stages_bytes concat all
    stages-clean p refs steps ports [] x r fits e d f =
        let refs_end : refs ≡ end-refs = omega arith in
        let steps_end : steps ≡ end-steps = omega arith in
        let ports_end : ports ≡ end-ports = omega arith in
        λ i. Ok (at (refs_end i) (steps_end i) (ports_end i))
    stages-clean p refs steps ports (y ∷ l) x r fits e d f =
        let more-refs : List ℕ = concat (λ y. y.declarations) l in
        let more-steps : List Action = concat (λ y. y.steps) l in
        let more-ports : List Port = concat (λ y. y.ports ++ y.payload) l in
        let of_refs : length (y.declarations ++ more-refs) ≡ length y.declarations + length more-refs = length-append y.declarations more-refs in
        let of_steps : length (y.steps ++ more-steps) ≡ length y.steps + length more-steps = length-append y.steps more-steps in
        let of-ports : length (y.ports ++ y.payload ++ more-ports) ≡ length y.ports + length y.payload + length more-ports =
        length-append (y.ports ++ y.payload) more-ports ∙ ap (λ (n : ℕ). n + length more-ports) (length-append y.ports y.payload) in
        let from : Running = at refs steps ports in
        let next : Running =
        at (refs + length y.declarations) (steps + length y.steps) (ports + length y.ports + length y.payload) in
        let good =
        stage_good_lem s c from y (left_true (stage_fits c y) (all (stage_fits c) l) fits) (stands_left y.declarations more-refs r)
        (omega arith) (omega arith) (omega arith) in
        walk-on (judge Stages s c) 30 (length l) p from next
        (ap (judge_stage s c from) (stage-written s p refs steps ports y l x) ∙ passes next good)
        (stages-clean (p + 30) (refs + length y.declarations) (steps + length y.steps) (ports + length y.ports + length y.payload) l
        (stands_past 30 x refl) (stands_right y.declarations more-refs r refl)
        (right_true (stage_fits c y) (all (stage_fits c) l) fits) (omega arith) (omega arith) (omega arith))

  -- steps lay ports
  module _ (few : c.layers ≤ 64) (few-interfaces : c.interfaces ≤ 256) (refs steps end : ℕ) (room : end ≤ c.ports) where
    pub steps-clean : (p ports : ℕ) (l : List Action) → Stands (u8_at s) p (actions_bytes ports l) → all (action_fits c) l ≡ true
        → ports + length (concat (λ y. y.ports) l) ≡ end
        → walk (judge Steps s c) 11 (length l) p (at refs steps ports) ≡ Ok (at refs steps end)
    unfolding walk actions_bytes concat all
    steps-clean p ports [] x fits e = ap (λ (n : ℕ). Ok (at refs steps n)) (omega arith)
    steps-clean p ports (y ∷ l) x fits e =
        let more : List Port = concat (λ y. y.ports) l in
        let sum : length (y.ports ++ more) ≡ length y.ports + length more = length-append y.ports more in
        let next : ℕ = ports + length y.ports in
        let good = step_good_lem c (at refs steps ports) few few-interfaces y (left_true (action_fits c y) (all (action_fits c) l) fits) (omega arith) in
        walk-on (judge Steps s c) 11 (length l) p (at refs steps ports) (at refs steps next)
        (ap (judge_step c (at refs steps ports)) (step-written s p ports y l x) ∙ passes (at refs steps next) good)
        (steps-clean (p + 11) next l (stands_past 11 x refl) (right_true (action_fits c y) (all (action_fits c) l) fits) (omega arith))
