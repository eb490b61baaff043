-- An image's records by their numbers: what the view has at a number is the record there.
use mathlib.Core.Path.{◌≡◌, ◌∙◌, refl, ap}
use mathlib.Core.List.{List}
use Prim.Native.Nat.{ℕ, zero, suc, ◌+◌, ◌*◌, ◌<◌}
use native.Mathlib.Nat.{le_of_suc-le-suc, not-suc-le-zero}
use native.Mathlib.Omega.{arith}
use lib.ListN.{length, get_or}
use Rattle.records.specs.declared.layout.Counts.{Counts}
use Rattle.records.specs.Layout.{layers_at, interfaces_at, stages_at}
use Rattle.records.specs.Records.{layer_at, interface_at, stage_at}
use Rattle.image.specs.View.{collect, layer_of_record, interface_of_record, stage_of_record, view_of}
use Rattle.image.specs.Vir.{layer_of, interface_of, stage_of}

pub length-collect : {A : Type 0} (f : ℕ → A) (i n : ℕ) → length (collect f i n) ≡ n
unfolding collect
length-collect f i zero = refl
length-collect f i (suc n) = ap suc (length-collect f (suc i) n)

pub get_or-collect : {A : Type 0} (f : ℕ → A) (d : A) (i n k : ℕ) → k < n → get_or (collect f i n) k d ≡ f (i + k)
unfolding collect
get_or-collect f d i zero k h = absurd (not-suc-le-zero h)
get_or-collect f d i (suc n) zero h = ap f (omega arith)
get_or-collect f d i (suc n) (suc k) h = get_or-collect f d (suc i) n k (le_of_suc-le-suc h) ∙ ap f (omega arith)

module _ (s : List ℕ) (c : Counts) where
  pub length-layers : length (view_of s c).layers ≡ c.layers
  unfolding view_of
  length-layers = length-collect _ 0 c.layers

  pub length-interfaces : length (view_of s c).interfaces ≡ c.interfaces
  unfolding view_of
  length-interfaces = length-collect _ 0 c.interfaces

  pub length-stages : length (view_of s c).stages ≡ c.stages
  unfolding view_of
  length-stages = length-collect _ 0 c.stages

  pub layer-at : (l : ℕ) → l < c.layers → layer_of (view_of s c) l ≡ layer_of_record s c (layer_at s (layers_at c + 6 * l))
  unfolding view_of
  layer-at l h =
      get_or-collect (λ k. layer_of_record s c (layer_at s (layers_at c + 6 * k))) _ 0 c.layers l h
      ∙ ap (λ (k : ℕ). layer_of_record s c (layer_at s (layers_at c + 6 * k))) (omega arith)

  pub interface-at : (i : ℕ) → i < c.interfaces → interface_of (view_of s c) i ≡ interface_of_record s c (interface_at s (interfaces_at c + 9 * i))
  unfolding view_of
  interface-at i h =
      get_or-collect (λ k. interface_of_record s c (interface_at s (interfaces_at c + 9 * k))) _ 0 c.interfaces i h
      ∙ ap (λ (k : ℕ). interface_of_record s c (interface_at s (interfaces_at c + 9 * k))) (omega arith)

  pub stage_at_lem : (t : ℕ) → t < c.stages → stage_of (view_of s c) t ≡ stage_of_record s c (stage_at s (stages_at c + 30 * t))
  unfolding view_of
  stage_at_lem t h =
      get_or-collect (λ k. stage_of_record s c (stage_at s (stages_at c + 30 * k))) _ 0 c.stages t h
      ∙ ap (λ (k : ℕ). stage_of_record s c (stage_at s (stages_at c + 30 * k))) (omega arith)
