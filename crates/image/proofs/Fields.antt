-- The numbers that the view's records hold, in the records as they are read and at their places in the bytes.
use mathlib.Core.Path.{◌≡◌, ◌∙◌, sym, ap}
use mathlib.Core.List.{List}
use Prim.Native.Nat.{ℕ, ◌+◌, ◌*◌, ◌<◌}
use Rattle.records.specs.declared.layout.Counts.{Counts}
use Rattle.records.specs.declared.record.InterfaceRecord.{InterfaceRecord}
use Rattle.records.specs.declared.record.LayerRecord.{LayerRecord}
use Rattle.records.specs.declared.record.StageRecord.{StageRecord}
use Rattle.records.specs.Bytes.{u16_at}
use Rattle.records.specs.Layout.{layers_at, interfaces_at, stages_at}
use Rattle.records.specs.Records.{layer_at, interface_at, stage_at}
use Rattle.image.specs.View.{stage_of_record, view_of}
use Rattle.image.specs.Vir.{Layer, Interface, Stage, layer_of, interface_of, stage_of}
use Rattle.image.proofs.Viewing.{layer-at, interface-at, stage_at_lem}

module _ (s : List ℕ) (c : Counts) where
  pub parent_read : (l : ℕ) {x : LayerRecord} → l < c.layers → x ≡ layer_at s (layers_at c + 6 * l) → (layer_of (view_of s c) l).parent ≡ x.parent.0
  parent_read l h p = ap (λ (r : Layer). r.parent) (layer-at s c l h) ∙ sym (ap (λ (x : LayerRecord). x.parent.0) p)

  pub lies_read : (i : ℕ) {x : InterfaceRecord} → i < c.interfaces → x ≡ interface_at s (interfaces_at c + 9 * i)
      → (interface_of (view_of s c) i).layer ≡ x.layer.0
  lies_read i h p = ap (λ (r : Interface). r.layer) (interface-at s c i h) ∙ sym (ap (λ (x : InterfaceRecord). x.layer.0) p)

  pub stage_read : (t : ℕ) {x : StageRecord} → t < c.stages → x ≡ stage_at s (stages_at c + 30 * t)
      → stage_of (view_of s c) t ≡ stage_of_record s c x
  stage_read t h p = stage_at_lem s c t h ∙ sym (ap (stage_of_record s c) p)

  pub transfer-at : (t : ℕ) → t < c.stages → (stage_of (view_of s c) t).transfer ≡ u16_at s (stages_at c + 30 * t + 27)
  transfer-at t h = ap (λ (r : Stage). r.transfer) (stage_at_lem s c t h)
