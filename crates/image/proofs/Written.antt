-- What a record is read as where it was written, with the running places that it was written with.
use mathlib.Core.Path.{◌≡◌, refl}
use mathlib.Core.List.{List, ◌∷◌}
use Prim.Native.Nat.{ℕ, ◌+◌}
use native.Mathlib.Omega.{arith}
use lib.ListN.{length}
use Rattle.vir.specs.Header.{header_number}
use Rattle.vir.specs.Interface.{kind_number}
use Rattle.vir.specs.Port.{port_number}
use Rattle.vir.specs.Step.{step_tag}
use Rattle.records.specs.declared.record.LayerRecord.{LayerRecord}
use Rattle.records.specs.declared.record.InterfaceRecord.{InterfaceRecord}
use Rattle.records.specs.declared.record.StageRecord.{StageRecord}
use Rattle.records.specs.declared.record.LocalRecord.{LocalRecord}
use Rattle.records.specs.declared.record.TypeRecord.{TypeRecord}
use Rattle.records.specs.declared.record.StepRecord.{StepRecord}
use Rattle.records.specs.declared.record.PortRecord.{PortRecord}
use Rattle.records.specs.Bytes.{u8_at, u16_at, u32_at}
use Rattle.records.specs.Records.{layer_at, interface_at, stage_at, local_at, type_at, step_at, port_at}
use Rattle.image.specs.Encode.{layers_bytes, interfaces_bytes, stages_bytes, local_bytes, flex_bytes, actions_bytes, port_bytes, step_a, step_b, port_a, port_b}
use Rattle.image.specs.Vir.{Layer, Interface, Port, Action, Stage, Local, Flex}
use Rattle.image.specs.Stands.{Stands}
use Rattle.image.proofs.Standing.{u8_in, u16_in, u32_in}

abbrev pub layer_record : ℕ → Layer → LayerRecord
layer_record refs y = record { parent = record { 0 = y.parent }; stages = record { first = refs; count = length y.stages } }

abbrev pub interface_record : ℕ → Interface → InterfaceRecord
interface_record refs y = record {
  layer = record { 0 = y.layer };
  kind = kind_number y.kind;
  key = y.key;
  list = record { first = refs; count = length y.list };
}

abbrev pub stage_record : ℕ → ℕ → ℕ → Stage → StageRecord
stage_record refs steps ports y = record {
  span = record { 0 = y.span };
  interface = record { 0 = y.interface };
  layer = record { 0 = y.layer };
  header = header_number y.header;
  key = y.key;
  ports = record { first = ports; count = length y.ports };
  declarations = record { first = refs; count = length y.declarations };
  steps = record { first = steps; count = length y.steps };
  wires = y.wires;
  transfer = record { 0 = y.transfer };
  payload = length y.payload;
}

abbrev pub local_record : Local → LocalRecord
local_record y = record { span = record { 0 = y.span }; ty = record { 0 = y.ty }; flags = y.flags }

abbrev pub type_record : Flex → TypeRecord
type_record y = record { upright = y.upright; inverted = y.inverted }

abbrev pub step_record : ℕ → Action → StepRecord
step_record ports y = record {
  tag = step_tag y.step;
  a = step_a y.step;
  b = step_b y.step;
  ports = record { first = ports; count = length y.ports };
}

abbrev pub port_record : Port → PortRecord
port_record y = record { ty = record { 0 = y.ty }; kind = port_number y.kind; a = port_a y.kind; b = port_b y.kind }

module _ (s : List ℕ) (a : ℕ) where
  pub layer-written : (refs : ℕ) (y : Layer) (l : List Layer) → Stands (u8_at s) a (layers_bytes refs (y ∷ l)) → layer_at s a ≡ layer_record refs y
  unfolding layers_bytes
  layer-written refs y l x =
      let parent : u16_at s a ≡ y.parent = u16_in s 0 x refl (omega arith) in
      let first : u16_at s (a + 2) ≡ refs = u16_in s 2 x refl refl in
      let count : u16_at s (a + 2 + 2) ≡ length y.stages = u16_in s 4 x refl (omega arith) in
      λ i. record { parent = record { 0 = parent i }; stages = record { first = first i; count = count i } }

  pub interface-written : (refs : ℕ) (y : Interface) (l : List Interface) → Stands (u8_at s) a (interfaces_bytes refs (y ∷ l))
      → interface_at s a ≡ interface_record refs y
  unfolding interfaces_bytes
  interface-written refs y l x =
      let layer : u16_at s a ≡ y.layer = u16_in s 0 x refl (omega arith) in
      let kind : u8_at s (a + 2) ≡ kind_number y.kind = u8_in s 2 x refl refl in
      let key : u16_at s (a + 3) ≡ y.key = u16_in s 3 x refl refl in
      let first : u16_at s (a + 5) ≡ refs = u16_in s 5 x refl refl in
      let count : u16_at s (a + 5 + 2) ≡ length y.list = u16_in s 7 x refl (omega arith) in
      λ i. record { layer = record { 0 = layer i }; kind = kind i; key = key i; list = record { first = first i; count = count i } }

  pub stage-written : (refs steps ports : ℕ) (y : Stage) (l : List Stage) → Stands (u8_at s) a (stages_bytes refs steps ports (y ∷ l))
      → stage_at s a ≡ stage_record refs steps ports y
  unfolding stages_bytes
  stage-written refs steps ports y l x =
      let span : u32_at s a ≡ y.span = u32_in s 0 x refl (omega arith) in
      let interface : u16_at s (a + 4) ≡ y.interface = u16_in s 4 x refl refl in
      let layer : u16_at s (a + 6) ≡ y.layer = u16_in s 6 x refl refl in
      let header : u8_at s (a + 8) ≡ header_number y.header = u8_in s 8 x refl refl in
      let key : u32_at s (a + 9) ≡ y.key = u32_in s 9 x refl refl in
      let ports-first : u16_at s (a + 13) ≡ ports = u16_in s 13 x refl refl in
      let ports-count : u16_at s (a + 13 + 2) ≡ length y.ports = u16_in s 15 x refl (omega arith) in
      let refs-first : u16_at s (a + 17) ≡ refs = u16_in s 17 x refl refl in
      let refs-count : u16_at s (a + 17 + 2) ≡ length y.declarations = u16_in s 19 x refl (omega arith) in
      let steps_first : u16_at s (a + 21) ≡ steps = u16_in s 21 x refl refl in
      let steps-count : u16_at s (a + 21 + 2) ≡ length y.steps = u16_in s 23 x refl (omega arith) in
      let wires : u16_at s (a + 25) ≡ y.wires = u16_in s 25 x refl refl in
      let transfer : u16_at s (a + 27) ≡ y.transfer = u16_in s 27 x refl refl in
      let payload : u8_at s (a + 29) ≡ length y.payload = u8_in s 29 x refl refl in
      λ i. record {
        span = record { 0 = span i };
        interface = record { 0 = interface i };
        layer = record { 0 = layer i };
        header = header i;
        key = key i;
        ports = record { first = ports-first i; count = ports-count i };
        declarations = record { first = refs-first i; count = refs-count i };
        steps = record { first = steps_first i; count = steps-count i };
        wires = wires i;
        transfer = record { 0 = transfer i };
        payload = payload i;
      }

  pub local-written : (y : Local) → Stands (u8_at s) a (local_bytes y) → local_at s a ≡ local_record y
  local-written y x =
      let span : u32_at s a ≡ y.span = u32_in s 0 x refl (omega arith) in
      let ty : u16_at s (a + 4) ≡ y.ty = u16_in s 4 x refl refl in
      let flags : u8_at s (a + 6) ≡ y.flags = u8_in s 6 x refl refl in
      λ i. record { span = record { 0 = span i }; ty = record { 0 = ty i }; flags = flags i }

  pub type-written : (y : Flex) → Stands (u8_at s) a (flex_bytes y) → type_at s a ≡ type_record y
  type-written y x =
      let upright : u8_at s a ≡ y.upright = u8_in s 0 x refl (omega arith) in
      let inverted : u8_at s (a + 1) ≡ y.inverted = u8_in s 1 x refl refl in
      λ i. record { upright = upright i; inverted = inverted i }

  pub step-written : (ports : ℕ) (y : Action) (l : List Action) → Stands (u8_at s) a (actions_bytes ports (y ∷ l)) → step_at s a ≡ step_record ports y
  unfolding actions_bytes
  step-written ports y l x =
      let tag : u8_at s a ≡ step_tag y.step = u8_in s 0 x refl (omega arith) in
      let first : u32_at s (a + 1) ≡ step_a y.step = u32_in s 1 x refl refl in
      let second : u16_at s (a + 5) ≡ step_b y.step = u16_in s 5 x refl refl in
      let from : u16_at s (a + 7) ≡ ports = u16_in s 7 x refl refl in
      let count : u16_at s (a + 7 + 2) ≡ length y.ports = u16_in s 9 x refl (omega arith) in
      λ i. record { tag = tag i; a = first i; b = second i; ports = record { first = from i; count = count i } }

  pub port_written : (y : Port) → Stands (u8_at s) a (port_bytes y) → port_at s a ≡ port_record y
  port_written y x =
      let ty : u16_at s a ≡ y.ty = u16_in s 0 x refl (omega arith) in
      let kind : u8_at s (a + 2) ≡ port_number y.kind = u8_in s 2 x refl refl in
      let first : u32_at s (a + 3) ≡ port_a y.kind = u32_in s 3 x refl refl in
      let second : u16_at s (a + 7) ≡ port_b y.kind = u16_in s 7 x refl refl in
      λ i. record { ty = record { 0 = ty i }; kind = kind i; a = first i; b = second i }
