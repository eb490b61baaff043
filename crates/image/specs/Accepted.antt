-- What the records of an accepted image name: every index is an existing record's, every list lies in its section, every tag is a known one.
use Rattle.std.specs.Prelude.{◌≡◌, List, ℕ, ◌+◌, ◌*◌, ◌≤◌, ◌<◌}
use Rattle.vir.specs.Ids.{none, idx}
use Rattle.records.specs.declared.layout.Counts.{Counts}
use Rattle.records.specs.declared.record.Run.{Run}
use Rattle.records.specs.declared.record.LayerRecord.{LayerRecord}
use Rattle.records.specs.declared.record.InterfaceRecord.{InterfaceRecord}
use Rattle.records.specs.declared.record.StageRecord.{StageRecord}
use Rattle.records.specs.declared.record.LocalRecord.{LocalRecord}
use Rattle.records.specs.declared.record.TypeRecord.{TypeRecord}
use Rattle.records.specs.declared.record.StepRecord.{StepRecord}
use Rattle.records.specs.declared.record.PortRecord.{PortRecord}
use Rattle.records.specs.Bytes.{u16_at}
use Rattle.rules.specs.Faults.{list_at}
use Rattle.records.specs.Layout.{layers_at, interfaces_at, stages_at, locals_at, types_at, steps_at, ports_at, Sized, layer_size, interface_size, stage_size, local_size, type_size, step_size, port_size}
use Rattle.records.specs.Records.{layer_at, interface_at, stage_at, local_at, type_at, step_at, port_at}

-- the k-th entry of a list of refs
abbrev pub entry_at : List ℕ → Counts → Run → ℕ → ℕ
entry_at s c run k = u16_at s (list_at c run + 2 * k)

-- a list lies within a section of so many
abbrev pub Inside : Run → ℕ → Type 0
Inside run total = run.first + run.count ≤ total

-- each entry of a list names one of n records
abbrev pub Named : List ℕ → Counts → Run → ℕ → Type 0
Named s c run n = (k : ℕ) → k < run.count → entry_at s c run k < n

-- an index that is not none names one of n records
abbrev pub NamedOrNone : ℕ → ℕ → Type 0
NamedOrNone i n = (i ≡ none → ⊥) → i < n

-- a layer names its parent and its stages
pub record LayerFacts (s : List ℕ) (c : Counts) (l : LayerRecord) : Type 0 where
  pub parent : NamedOrNone l.parent.0 c.layers
  pub fits : Inside l.stages c.refs
  pub named : Named s c l.stages c.stages

-- an interface lists locals if it is an Inspect, and stages otherwise
pub record InterfaceFacts (s : List ℕ) (c : Counts) (i : InterfaceRecord) : Type 0 where
  pub kind : i.kind < 5
  pub fits : Inside i.list c.refs
  pub stages : (i.kind ≡ 4 → ⊥) → (k : ℕ) → k < i.list.count → NamedOrNone (entry_at s c i.list k) c.stages
  pub locals : i.kind ≡ 4 → Named s c i.list c.locals

-- a stage names its interface, its layer, the locals that it declares, its steps, its ports and its transfer's interface
pub record StageFacts (s : List ℕ) (c : Counts) (t : StageRecord) : Type 0 where
  pub interface : t.interface.0 < c.interfaces
  pub layer : NamedOrNone t.layer.0 c.layers
  pub header : t.header < 8
  pub declarations_fit : Inside t.declarations c.refs
  pub declared : Named s c t.declarations c.locals
  pub steps_fit : Inside t.steps c.steps
  -- the transfer's data port is behind the header's
  pub ports_fit : t.ports.first + t.ports.count + t.payload ≤ c.ports
  pub transfer : NamedOrNone t.transfer.0 c.interfaces
  pub payload : t.payload ≤ 1

-- a local names its type
pub record LocalFacts (c : Counts) (l : LocalRecord) : Type 0 where
  pub type : idx l.ty.0 < c.types
  pub flags : l.flags < 16

-- a type has flags both ways up
pub record TypeFacts (t : TypeRecord) : Type 0 where
  pub upright : t.upright < 16
  pub inverted : t.inverted < 16

-- a step names a local if it is an Invoke, an interface if a Transfer, a layer and perhaps an interface if a Diverge; and its ports
pub record StepFacts (c : Counts) (t : StepRecord) : Type 0 where
  pub tag : t.tag < 21
  pub local : t.tag ≤ 5 → t.b < c.locals
  pub interface : t.tag ≡ 6 → t.b < c.interfaces
  pub layer : t.tag ≡ 7 → t.a < c.layers
  pub onward : t.tag ≡ 7 → NamedOrNone t.b c.interfaces
  pub ports_fit : Inside t.ports c.ports

-- a port names its type
pub record PortFacts (c : Counts) (p : PortRecord) : Type 0 where
  pub type : idx p.ty.0 < c.types
  pub kind : p.kind < 8

-- bytes laid out by their counts, with every record's facts
pub record Accepted (s : List ℕ) (c : Counts) : Type 0 where
  pub sized : Sized s c
  pub layers : (k : ℕ) → k < c.layers → LayerFacts s c (layer_at s (layers_at c + layer_size * k))
  pub interfaces : (k : ℕ) → k < c.interfaces → InterfaceFacts s c (interface_at s (interfaces_at c + interface_size * k))
  pub stages : (k : ℕ) → k < c.stages → StageFacts s c (stage_at s (stages_at c + stage_size * k))
  pub locals : (k : ℕ) → k < c.locals → LocalFacts c (local_at s (locals_at c + local_size * k))
  pub types : (k : ℕ) → k < c.types → TypeFacts (type_at s (types_at c + type_size * k))
  pub steps : (k : ℕ) → k < c.steps → StepFacts c (step_at s (steps_at c + step_size * k))
  pub ports : (k : ℕ) → k < c.ports → PortFacts c (port_at s (ports_at c + port_size * k))
