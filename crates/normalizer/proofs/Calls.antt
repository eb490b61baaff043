-- Normalising a layer: as much fuel as there are layers is enough, so that the Rust's equation holds.
use mathlib.Core.Path.{◌≡◌, ◌∙◌, refl, sym, ap}
use mathlib.Core.Bool.{Bool, true, false}
use mathlib.Core.List.{Memᴰ}
use Prim.Native.Nat.{ℕ, zero, suc, ◌+◌, ◌<◌, ◌≤◌}
use native.Mathlib.Omega.{arith}
use lib.Dec.{eqb, leb}
use lib.ListN.{length}
use borrow.Author.Tests.{eqb-false}
use Rattle.vir.specs.declared.step.Step.{Step}
use Rattle.vir.specs.Ids.{none}
use Rattle.image.specs.LayerRules.{transfer_to}
use Rattle.image.specs.Loops.{each}
use Rattle.image.specs.Vir.{Action, Layer, Stage, Vir, layer_of, stage_of}
use Rattle.image.proofs.Climbing.{parent_of}
use Rattle.normalizer.specs.Divergence.{sub_layer, step_divergence, layer_divergence}
use Rattle.normalizer.specs.Layered.{Layered}
use Rattle.normalizer.specs.Normalize.{Normalizer, Piece, ended, go_on, jump, normalize_layer, normalize_stage, opened, push_step, set_final, split_at, stepped}
use Rattle.normalizer.proofs.Each.{each_cong}
use Rattle.normalizer.proofs.Layering.{no_layer, lists, few-layers, child_above}
use Rattle.normalizer.proofs.Splits.{split_enters, prepared, resumed, split-is}

module _ (v : Vir) where
  module _ (deep deep' : ℕ → Normalizer → Normalizer) where
    -- two ways to normalise the layers that a step enters agree
    abbrev Agree : Step → Type 0
    Agree s = (i : ℕ) → Memᴰ i (transfer_to s) → (parent_of v (sub_layer v i) ≡ none → ⊥) → (n : Normalizer)
        → deep (sub_layer v i) n ≡ deep' (sub_layer v i) n

    go_on_agree : (source : Stage) (a : Action) (p : Piece) → Agree a.step → go_on v deep source a p ≡ go_on v deep' source a p
    go_on_agree source a p h =
        ap
        (λ (n : Normalizer). record { normalizer = n; id = p.id; stage = push_step a p.stage; open_wires = p.open_wires })
        (each_cong _ _ (transfer_to a.step) (λ i m n. go i m n (eqb (parent_of v (sub_layer v i)) none) refl) p.normalizer)
      where
        go : (i : ℕ) → Memᴰ i (transfer_to a.step) → (n : Normalizer) (b : Bool) → eqb (parent_of v (sub_layer v i)) none ≡ b
            → ◌≡◌ {A = Normalizer} (elim b [ true ↦ n | false ↦ deep (sub_layer v i) n ]) (elim b [ true ↦ n | false ↦ deep' (sub_layer v i) n ])
        go i m n true e = refl
        go i m n false e = h i m (eqb-false _ _ e) n

    split_agree : (source : Stage) (a : Action) (p : Piece) → Agree a.step
        → ((i : ℕ) → Memᴰ i (transfer_to a.step) → parent_of v (sub_layer v i) ≡ none → ⊥)
        → split_at v deep source a p ≡ split_at v deep' source a p
    split_agree source a p h c =
        split-is v deep source a p
        ∙ ap
        (λ (n : Normalizer).
        resumed p (prepared v source p)
        (record {
          normalizer = n;
          steps = (jump v (λ m n. n) (length p.normalizer.interfaces) a a.step (prepared v source p).normalizer).steps;
        }))
        (each_cong _ _ (transfer_to a.step) (λ i m n. h i m (c i m) (set_final (sub_layer v i) (length p.normalizer.interfaces) n))
        (prepared v source p).normalizer)
        ∙ sym (split-is v deep' source a p)

    stepped_agree : (source : Stage) (l : ℕ) (a : Action) (p : Piece) → l < none → Agree a.step
        → stepped v deep source l a p ≡ stepped v deep' source l a p
    stepped_agree source l a p k h = go (leb (step_divergence (layer_divergence (length v.layers) v) v a.step) l) refl
      where
        go : (b : Bool) → leb (step_divergence (layer_divergence (length v.layers) v) v a.step) l ≡ b
            → ◌≡◌ {A = Piece} (elim b [ true ↦ split_at v deep source a (opened a p) | false ↦ go_on v deep source a (opened a p) ])
            (elim b [ true ↦ split_at v deep' source a (opened a p) | false ↦ go_on v deep' source a (opened a p) ])
        go true e =
            split_agree source a (opened a p) h
            (λ i m. split_enters v (layer_divergence (length v.layers) v) a.step m e k)
        go false e = go_on_agree source a (opened a p) h

    stage_agree : (source : Stage) (l t : ℕ) (n : Normalizer) → l < none → ((a : Action) → Memᴰ a source.steps → Agree a.step)
        → normalize_stage v deep source l t n ≡ normalize_stage v deep' source l t n
    stage_agree source l t n k h =
        ap (λ (p : Piece). ended source l p)
        (each_cong (stepped v deep source l) (stepped v deep' source l) source.steps (λ a m p. stepped_agree source l a p k (h a m)) _)

  -- the stages of a layer in turn, given how the layers that they enter are normalised
  abbrev pub in_turn : (ℕ → Normalizer → Normalizer) → ℕ → Normalizer → Normalizer
  in_turn deep l n = each (λ t n. normalize_stage v deep (stage_of v t) l t n) (layer_of v l).stages n

  pub normalize-step : (k l : ℕ) (n : Normalizer) → normalize_layer (suc k) v l n ≡ in_turn (normalize_layer k v) l n
  unfolding normalize_layer
  normalize-step k l n = refl

  normalize_past : (k l : ℕ) (n : Normalizer) → length v.layers ≤ l → normalize_layer k v l n ≡ n
  unfolding normalize_layer each
  normalize_past zero l n h = refl
  normalize_past (suc k) l n h =
      ap (λ (x : Layer). each (λ t n. normalize_stage v (normalize_layer k v) (stage_of v t) l t n) x.stages n) (no_layer v l h)

  module _ (w : Layered v) where
    in_turn_agree : (deep deep' : ℕ → Normalizer → Normalizer) (l : ℕ) (n : Normalizer)
        → ((m : ℕ) → l < m → (n : Normalizer) → deep m n ≡ deep' m n) → in_turn deep l n ≡ in_turn deep' l n
    in_turn_agree deep deep' l n h =
        each_cong _ _ (layer_of v l).stages
        (λ t listed n.
        stage_agree deep deep' (stage_of v t) l t n (omega (arith, lists v l listed, few-layers v w))
        (λ a stands i enters child. h (sub_layer v i) (child_above v w l t a i listed stands enters child)))
        n

    normalize_agree : (k k' l : ℕ) (n : Normalizer) → length v.layers ≤ k + l → length v.layers ≤ k' + l
        → normalize_layer k v l n ≡ normalize_layer k' v l n
    normalize_agree zero k' l n h h' = normalize_past zero l n (omega arith) ∙ sym (normalize_past k' l n (omega arith))
    normalize_agree (suc k) zero l n h h' = normalize_past (suc k) l n (omega arith) ∙ sym (normalize_past zero l n (omega arith))
    normalize_agree (suc k) (suc k') l n h h' =
        normalize-step k l n
        ∙ in_turn_agree (normalize_layer k v) (normalize_layer k' v) l n (λ m a n. normalize_agree k k' m n (omega arith) (omega arith))
        ∙ sym (normalize-step k' l n)

pub normalize-enough : (v : Vir) → Layered v → (k l : ℕ) (n : Normalizer) → length v.layers ≤ k
    → normalize_layer k v l n ≡ normalize_layer (length v.layers) v l n
normalize-enough v w k l n h = normalize_agree v w k (length v.layers) l n (omega arith) (omega arith)

-- the Rust's equation, without fuel
pub normalize_equation : (v : Vir) → Layered v → (l : ℕ) (n : Normalizer) → l < length v.layers
    → normalize_layer (length v.layers) v l n
    ≡ each (λ t n. normalize_stage v (normalize_layer (length v.layers) v) (stage_of v t) l t n) (layer_of v l).stages n
normalize_equation v w l n h =
    sym (normalize-enough v w (suc (length v.layers)) l n (omega arith)) ∙ normalize-step v (length v.layers) l n
