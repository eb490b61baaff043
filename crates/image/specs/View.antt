-- An accepted image, read as a value. (On other bytes it is some value; nothing rests on which.)
use Rattle.std.specs.Prelude.{List, [], ◌∷◌, ℕ, zero, suc, ◌+◌, ◌*◌, None, Option, Some}
use Rattle.vir.specs.declared.header.Header.{Header}
use Rattle.vir.specs.declared.header.Header.TheVariants.{Bare}
use Rattle.vir.specs.declared.interface.InterfaceKind.{InterfaceKind}
use Rattle.vir.specs.declared.interface.InterfaceKind.TheVariants.{Unconditional}
use Rattle.vir.specs.declared.port.PortKind.{PortKind}
use Rattle.vir.specs.declared.port.PortKind.TheVariants.{Nil}
use Rattle.vir.specs.declared.step.Step.{Step}
use Rattle.vir.specs.declared.step.Step.TheVariants.{Link}
use Rattle.vir.specs.Header.{header_of}
use Rattle.vir.specs.Interface.{kind_of}
use Rattle.vir.specs.Port.{port_of}
use Rattle.vir.specs.Step.{step_of}
use Rattle.records.specs.declared.layout.Counts.{Counts}
use Rattle.records.specs.declared.record.Run.{Run}
use Rattle.records.specs.declared.record.LayerRecord.{LayerRecord}
use Rattle.records.specs.declared.record.InterfaceRecord.{InterfaceRecord}
use Rattle.records.specs.declared.record.StageRecord.{StageRecord}
use Rattle.records.specs.declared.record.LocalRecord.{LocalRecord}
use Rattle.records.specs.declared.record.TypeRecord.{TypeRecord}
use Rattle.records.specs.declared.record.StepRecord.{StepRecord}
use Rattle.records.specs.declared.record.PortRecord.{PortRecord}
use Rattle.records.specs.Bytes.{u16_at}
use Rattle.records.specs.Layout.{counts_of, layers_at, interfaces_at, stages_at, locals_at, types_at, steps_at, ports_at, refs_at, layer_size, interface_size, stage_size, local_size, type_size, step_size, port_size, ref_size}
use Rattle.records.specs.Records.{layer_at, interface_at, stage_at, local_at, type_at, step_at, port_at}
use Rattle.image.specs.Vir.{Layer, Interface, Port, Action, Stage, Local, Flex, Vir}

-- n values of f, from i on
unfoldable pub collect : {A : Type 0} → (ℕ → A) → ℕ → ℕ → List A
collect f i zero = []
collect f i (suc n) = f i ∷ collect f (suc i) n

-- what a tag names; an accepted image has no other
abbrev pub header_in : Option Header → Header
header_in (Some h) = h
header_in None = Bare

abbrev pub kind_in : Option InterfaceKind → InterfaceKind
kind_in (Some k) = k
kind_in None = Unconditional

abbrev pub port_in : Option PortKind → PortKind
port_in (Some p) = p
port_in None = Nil 0

abbrev pub step_in : Option Step → Step
step_in (Some s) = s
step_in None = Link 0

module _ (s : List ℕ) (c : Counts) where
  -- the refs, ports and steps from a place of their section on
  abbrev pub refs_from : Run → List ℕ
  refs_from run = collect (λ k. u16_at s (refs_at c + ref_size * k)) run.first run.count

  abbrev pub port_of_record : PortRecord → Port
  port_of_record p = record { ty = p.ty.0; kind = port_in (port_of p.kind p.a p.b) }

  abbrev pub ports_from : ℕ → ℕ → List Port
  ports_from = collect (λ k. port_of_record (port_at s (ports_at c + port_size * k)))

  abbrev pub action_of_record : StepRecord → Action
  action_of_record t = record { step = step_in (step_of t.tag t.a t.b); ports = ports_from t.ports.first t.ports.count }

  abbrev pub layer_of_record : LayerRecord → Layer
  layer_of_record l = record { parent = l.parent.0; stages = refs_from l.stages }

  abbrev pub interface_of_record : InterfaceRecord → Interface
  interface_of_record i = record { layer = i.layer.0; kind = kind_in (kind_of i.kind); key = i.key; list = refs_from i.list }

  -- the data port stands behind the header's
  abbrev pub stage_of_record : StageRecord → Stage
  stage_of_record t = record {
    span = t.span.0;
    interface = t.interface.0;
    layer = t.layer.0;
    header = header_in (header_of t.header);
    key = t.key;
    ports = ports_from t.ports.first t.ports.count;
    declarations = refs_from t.declarations;
    steps = collect (λ k. action_of_record (step_at s (steps_at c + step_size * k))) t.steps.first t.steps.count;
    wires = t.wires;
    transfer = t.transfer.0;
    payload = ports_from (t.ports.first + t.ports.count) t.payload;
  }

abbrev pub local_of_record : LocalRecord → Local
local_of_record l = record { span = l.span.0; ty = l.ty.0; flags = l.flags }

abbrev pub flex_of_record : TypeRecord → Flex
flex_of_record t = record { upright = t.upright; inverted = t.inverted }

-- the image that the counts lay out
unfoldable pub view_of : List ℕ → Counts → Vir
view_of s c = record {
  layers = collect (λ k. layer_of_record s c (layer_at s (layers_at c + layer_size * k))) 0 c.layers;
  interfaces = collect (λ k. interface_of_record s c (interface_at s (interfaces_at c + interface_size * k))) 0 c.interfaces;
  stages = collect (λ k. stage_of_record s c (stage_at s (stages_at c + stage_size * k))) 0 c.stages;
  locals = collect (λ k. local_of_record (local_at s (locals_at c + local_size * k))) 0 c.locals;
  types = collect (λ k. flex_of_record (type_at s (types_at c + type_size * k))) 0 c.types;
}

abbrev pub view : List ℕ → Vir
view s = view_of s (counts_of s)
