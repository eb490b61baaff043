-- The divergence of a layer: as much fuel as there are layers is enough, so that the Rust's equation holds.
use mathlib.Core.Path.{◌≡◌, ◌∙◌, refl, sym, ap}
use mathlib.Core.Bool.{Bool, true, false}
use mathlib.Core.List.{Memᴰ}
use Prim.Native.Nat.{ℕ, zero, suc, ◌+◌, ◌<◌, ◌≤◌, min}
use native.Mathlib.Omega.{arith}
use lib.Dec.{eqb}
use lib.ListN.{length}
use borrow.Author.Tests.{eq-eqb, ne_eqb, eqb-false}
use Rattle.vir.specs.declared.step.Step.{Step}
use Rattle.vir.specs.Ids.{none}
use Rattle.image.specs.LayerRules.{transfer_to, diverge_to}
use Rattle.image.specs.Loops.{each}
use Rattle.image.specs.Vir.{Layer, Vir, layer_of, stage_of}
use Rattle.image.proofs.Climbing.{parent_of}
use Rattle.normalizer.specs.Divergence.{sub_layer, step_divergence, steps_of, layer_divergence}
use Rattle.normalizer.specs.Layered.{Layered}
use Rattle.normalizer.proofs.Each.{each_cong, each-concat}
use Rattle.normalizer.proofs.Layering.{no_layer, child_above}

module _ (v : Vir) where
  step_agree : (f g : ℕ → ℕ) (s : Step)
      → ((i : ℕ) → Memᴰ i (transfer_to s) → (parent_of v (sub_layer v i) ≡ none → ⊥) → f (sub_layer v i) ≡ g (sub_layer v i))
      → step_divergence f v s ≡ step_divergence g v s
  step_agree f g s h =
      ap (each (λ (target d : ℕ). target) (diverge_to s))
      (each_cong _ _ (transfer_to s) (λ i m d. go i m (eqb (parent_of v (sub_layer v i)) none) refl) none)
    where
      go : (i : ℕ) → Memᴰ i (transfer_to s) → (b : Bool) → eqb (parent_of v (sub_layer v i)) none ≡ b
          → ◌≡◌ {A = ℕ} (elim b [ true ↦ none | false ↦ f (sub_layer v i) ]) (elim b [ true ↦ none | false ↦ g (sub_layer v i) ])
      go i m true e = refl
      go i m false e = h i m (eqb-false _ _ e)

  -- a layer's divergence by those of the layers that its steps enter
  abbrev pub lowest : (ℕ → ℕ) → ℕ → ℕ
  lowest f l = each (λ a d. min d (step_divergence f v a.step)) (steps_of v (layer_of v l)) l

  divergence_step : {b : Bool} (k l : ℕ) → eqb (parent_of v l) none ≡ b
      → layer_divergence (suc k) v l ≡ elim b [ true ↦ none | false ↦ lowest (layer_divergence k v) l ]
  unfolding layer_divergence
  divergence_step k l e = ap (λ (b : Bool). elim b [ true ↦ none | false ↦ lowest (layer_divergence k v) l ]) e

  divergence_root : (k l : ℕ) → parent_of v l ≡ none → layer_divergence k v l ≡ none
  unfolding layer_divergence
  divergence_root zero l e = refl
  divergence_root (suc k) l e = divergence_step k l (eq-eqb _ _ e)

  module _ (w : Layered v) where
    lowest_agree : (f g : ℕ → ℕ) (l : ℕ) → ((m : ℕ) → l < m → f m ≡ g m) → lowest f l ≡ lowest g l
    lowest_agree f g l h =
        each-concat _ _ (layer_of v l).stages l
        ∙ each_cong _ _ (layer_of v l).stages
        (λ t listed d.
        each_cong _ _ (stage_of v t).steps
        (λ a stands d.
        ap (min d) (step_agree f g a.step (λ i enters child. h (sub_layer v i) (child_above v w l t a i listed stands enters child))))
        d)
        l
        ∙ sym (each-concat _ _ (layer_of v l).stages l)

    divergence_agree : (k k' l : ℕ) → length v.layers ≤ k + l → length v.layers ≤ k' + l
        → layer_divergence k v l ≡ layer_divergence k' v l
    divergence_agree zero k' l h h' =
        let root : parent_of v l ≡ none = ap (λ (x : Layer). x.parent) (no_layer v l (omega arith)) in
        divergence_root zero l root ∙ sym (divergence_root k' l root)
    divergence_agree (suc k) zero l h h' =
        let root : parent_of v l ≡ none = ap (λ (x : Layer). x.parent) (no_layer v l (omega arith)) in
        divergence_root (suc k) l root ∙ sym (divergence_root zero l root)
    divergence_agree (suc k) (suc k') l h h' =
        go (eqb (parent_of v l) none) refl (λ (m : ℕ) (a : l < m). divergence_agree k k' m (omega arith) (omega arith))
      where
        go : (b : Bool) → eqb (parent_of v l) none ≡ b → ((m : ℕ) → l < m → layer_divergence k v m ≡ layer_divergence k' v m)
            → layer_divergence (suc k) v l ≡ layer_divergence (suc k') v l
        go true e r = divergence_step k l e ∙ sym (divergence_step k' l e)
        go false e r =
            divergence_step k l e ∙ lowest_agree (layer_divergence k v) (layer_divergence k' v) l r ∙ sym (divergence_step k' l e)

pub divergence_enough : (v : Vir) → Layered v → (k l : ℕ) → length v.layers ≤ k
    → layer_divergence k v l ≡ layer_divergence (length v.layers) v l
divergence_enough v w k l h = divergence_agree v w k (length v.layers) l (omega arith) (omega arith)

-- the Rust's equation, without fuel
pub divergence_equation : (v : Vir) → Layered v → (l : ℕ) → l < length v.layers → ((layer_of v l).parent ≡ none → ⊥)
    → layer_divergence (length v.layers) v l
    ≡ each (λ a d. min d (step_divergence (layer_divergence (length v.layers) v) v a.step)) (steps_of v (layer_of v l)) l
divergence_equation v w l h n =
    sym (divergence_enough v w (suc (length v.layers)) l (omega arith)) ∙ divergence_step v (length v.layers) l (ne_eqb _ _ n)
