-- What a value that normalise takes says of a layer's stages and of their steps.
use mathlib.Core.Path.{◌≡◌, ◌∙◌, refl, sym, ap}
use mathlib.Core.Bool.{Bool, true, false, ◌&&◌, ◌||◌, true≢false}
use mathlib.Core.List.{List, [], ◌++◌}
use Prim.Native.Nat.{ℕ, zero, suc, ◌≤◌, ◌<◌}
use native.Mathlib.Omega.{arith}
use lib.Dec.{eqb, ltb, leb}
use lib.ListN.{length}
use borrow.Author.Tests.{eqb-true, eqb-false, ltb-true, ltb-false, le-leb}
use Rattle.vir.specs.Ids.{none}
use Rattle.records.specs.declared.layout.Counts.{Counts}
use Rattle.rules.specs.Faults.{or_none}
use Rattle.records.proofs.Every.{every-at}
use Rattle.records.proofs.Guards.{left_true, right_true}
use Rattle.image.specs.Encode.{all_actions, stage_ports, counts_of_vir}
use Rattle.image.specs.Kind.{all, concat}
use Rattle.image.specs.LayerRules.{parents_below, listed_once, listed_by_own_layer, interfaces_lie, entered_from_parent, entered_once, diverges_out, diverge_to, targets, lies_within, layer_rules}
use Rattle.image.specs.Vir.{Action, Layer, Stage, Vir, layer_of, stage_of}
use Rattle.wellformed.specs.WellFormed.{layer_fits, stage_fits, action_fits, port_fits}
use Rattle.normalizer.specs.Layered.{Layered}
use Rattle.normalizer.proofs.Layering.{no_layer, parent_lower}
use Rattle.normalizer.proofs.Members.{all_none, all_left, all_right, all-at, all_get_or, all_imp, all_both, all-concat}
use Rattle.normalizer.proofs.Whole.{whole}

-- a step that fits, and that diverges to no layer above a number
abbrev pub takes : Counts → ℕ → Action → Bool
takes c layer a = whole c a && all (λ d. leb d layer) (diverge_to a.step)

-- stage t, of that layer, as its records were judged
pub record SourceFits (v : Vir) (layer t : ℕ) : Type 0 where
  pub inside : t < length v.stages
  pub fits : stage_fits (counts_of_vir v) (stage_of v t) ≡ true
  pub ports : all (port_fits (counts_of_vir v)) (stage_of v t).ports ≡ true
  pub payload : all (port_fits (counts_of_vir v)) (stage_of v t).payload ≡ true
  pub steps : all (takes (counts_of_vir v) layer) (stage_of v t).steps ≡ true

module _ (v : Vir) (y : Layered v) where
  -- a climb by parents falls
  within_falls : (n l outer : ℕ) → lies_within v n l outer ≡ true → outer ≤ l
  unfolding lies_within
  within_falls zero l outer h = absurd (true≢false (sym h))
  within_falls (suc n) l outer h = go (eqb l outer) (eqb (layer_of v l).parent none) refl refl h (within_falls n (layer_of v l).parent outer)
    where
      go : (here root : Bool) → eqb l outer ≡ here → eqb (layer_of v l).parent none ≡ root
          → (here || elim root [ true ↦ false | false ↦ lies_within v n (layer_of v l).parent outer ]) ≡ true
          → (lies_within v n (layer_of v l).parent outer ≡ true → outer ≤ (layer_of v l).parent) → outer ≤ l
      go true root p q t r = omega (arith, eqb-true l outer p)
      go false true p q t r = absurd (true≢false (sym t))
      go false false p q t r = omega (arith, r t, parent_lower v y l (eqb-false (layer_of v l).parent none q))

  abbrev c : Counts
  c = counts_of_vir v

  rules : parents_below v && listed_by_own_layer v ≡ true
  unfolding layer_rules
  rules =
      left_true _ (listed_once v)
      (left_true _ (interfaces_lie v)
      (left_true _ (entered_from_parent v) (left_true _ (entered_once v) (left_true _ (diverges_out v) y.rules))))

  diverges_out_lem : diverges_out v ≡ true
  unfolding layer_rules
  diverges_out_lem =
      right_true (parents_below v && listed_by_own_layer v && listed_once v && interfaces_lie v && entered_from_parent v && entered_once v)
      (diverges_out v) y.rules

  -- a layer lists stages that exist, and that have it in their own field
  abbrev pub owned : ℕ → ℕ → Bool
  owned l t = ltb t (length v.stages) && eqb (stage_of v t).layer l

  pub layer_owns : (l : ℕ) → all (owned l) (layer_of v l).stages ≡ true
  layer_owns l =
      all_both (λ t. ltb t (length v.stages)) (λ t. eqb (stage_of v t).layer l) (layer_of v l).stages
      exist
      (go (ltb l (length v.layers)) refl)
    where
      exist : all (λ t. ltb t (length v.stages)) (layer_of v l).stages ≡ true
      exist =
          all_get_or (λ (x : Layer). all (λ t. ltb t (length v.stages)) x.stages) (record { parent = none; stages = [] })
          (all_none (λ (t : ℕ). ltb t (length v.stages))) v.layers
          (all_imp (layer_fits c) (λ (x : Layer). all (λ t. ltb t (length v.stages)) x.stages)
          (λ x h. right_true (or_none (length v.layers) x.parent) (all (λ t. ltb t (length v.stages)) x.stages) h) v.layers y.formed.layers)
          l

      go : (b : Bool) → ltb l (length v.layers) ≡ b → all (λ t. eqb (stage_of v t).layer l) (layer_of v l).stages ≡ true
      go true h =
          every-at (λ l. all (λ t. eqb (stage_of v t).layer l) (layer_of v l).stages) (length v.layers) l
          (right_true (parents_below v) (listed_by_own_layer v) rules) (ltb-true l (length v.layers) h)
      go false h =
          ap (λ (x : Layer). all (λ t. eqb (stage_of v t).layer l) x.stages)
          (no_layer v l (ltb-false l (length v.layers) h))
          ∙ all_none (λ t. eqb (stage_of v t).layer l)

  -- a test of all that the stages hold, at one stage
  at_stage : {B : Type 0} (f : B → Bool) (g : Stage → List B) (t : ℕ) → t < length v.stages → all f (concat g v.stages) ≡ true
      → all f (g (stage_of v t)) ≡ true
  at_stage f g t h p = all-at (λ x. all f (g x)) _ v.stages (sym (all-concat f g v.stages) ∙ p) t h

  module _ (l t : ℕ) (o : owned l t ≡ true) where
    abbrev source : Stage
    source = stage_of v t

    inside_source : t < length v.stages
    inside_source = ltb-true t (length v.stages) (left_true (ltb t (length v.stages)) (eqb source.layer l) o)

    own_layer_lem : source.layer ≡ l
    own_layer_lem = eqb-true source.layer l (right_true (ltb t (length v.stages)) (eqb source.layer l) o)

    stage-ports : all (port_fits c) (source.ports ++ source.payload) ≡ true
    stage-ports =
        at_stage (port_fits c) (λ x. x.ports ++ x.payload) t inside_source
        (all_left (port_fits c) (stage_ports v) (concat (λ a. a.ports) (all_actions v)) y.formed.ports)

    step-ports : all (λ a. all (port_fits c) a.ports) source.steps ≡ true
    step-ports =
        at_stage (λ a. all (port_fits c) a.ports) (λ x. x.steps) t inside_source
        (sym (all-concat (port_fits c) (λ a. a.ports) (all_actions v))
        ∙ all_right (port_fits c) (stage_ports v) (concat (λ a. a.ports) (all_actions v)) y.formed.ports)

    lower : (d : ℕ) → lies_within v (length v.layers) source.layer d ≡ true → leb d l ≡ true
    lower d h =
        le-leb d l
        (omega (arith, own_layer_lem, within_falls (length v.layers) source.layer d h))

    step_diverges : all (λ a. all (λ d. leb d l) (diverge_to a.step)) source.steps ≡ true
    step_diverges =
        sym (all-concat (λ d. leb d l) (λ a. diverge_to a.step) source.steps)
        ∙ all_imp (lies_within v (length v.layers) source.layer) (λ d. leb d l) lower (targets source)
        (every-at (λ t. all (lies_within v (length v.layers) (stage_of v t).layer) (targets (stage_of v t))) (length v.stages) t diverges_out_lem inside_source)

    pub source_fits : SourceFits v l t
    source_fits =
        record {
          inside = inside_source;
          fits = all-at (stage_fits c) _ v.stages y.formed.stages t inside_source;
          ports = all_left (port_fits c) source.ports source.payload stage-ports;
          payload = all_right (port_fits c) source.ports source.payload stage-ports;
          steps =
              all_both (whole c) (λ a. all (λ d. leb d l) (diverge_to a.step)) source.steps
              (all_both (action_fits c) (λ a. all (port_fits c) a.ports) source.steps
              (at_stage (action_fits c) (λ x. x.steps) t inside_source y.formed.actions)
              step-ports)
              step_diverges;
        }
