-- normalizer.rs: `layer_divergence` and `step_divergence`, which call each other.
use Rattle.std.specs.Prelude.{true, false, List, ℕ, zero, suc, min, eqb}
use Rattle.vir.specs.Ids.{none}
use Rattle.vir.specs.declared.step.Step.{Step}
use Rattle.image.specs.Kind.{concat}
use Rattle.image.specs.LayerRules.{transfer_to, diverge_to}
use Rattle.image.specs.Loops.{each}
use Rattle.image.specs.Vir.{Action, Layer, Vir, interface_of, layer_of, stage_of}

-- the layer that an interface lies in
abbrev pub sub_layer : Vir → ℕ → ℕ
sub_layer v i = (interface_of v i).layer

-- `step_divergence`, given that of the layers: a Diverge's target, an entered layer's own divergence, else `LayerId::NONE`, the largest number
abbrev pub step_divergence : (ℕ → ℕ) → Vir → Step → ℕ
step_divergence layer_divergence v step =
    each (λ target d. target) (diverge_to step)
    (each
    (λ i d. elim (eqb (layer_of v (sub_layer v i)).parent none) [ true ↦ none | false ↦ layer_divergence (sub_layer v i) ])
    (transfer_to step) none)

-- the steps of a layer, stage by stage
abbrev pub steps_of : Vir → Layer → List Action
steps_of v layer = concat (λ t. (stage_of v t).steps) layer.stages

-- `layer_divergence`, without the Rust's table of those that are known. A call falls to a layer of a higher number: `divergence_enough`
-- says that as much fuel as there are layers is enough
unfoldable pub layer_divergence : ℕ → Vir → ℕ → ℕ
layer_divergence zero v l = none
layer_divergence (suc k) v l =
    elim (eqb (layer_of v l).parent none) [
      | true ↦ none
      | false ↦ each (λ a d. min d (step_divergence (layer_divergence k v) v a.step)) (steps_of v (layer_of v l)) l
    ]
