-- The records in file order: the first that breaks its rule, or where the lists end.
use Rattle.std.specs.Prelude.{cond, List, [], ◌∷◌, ℕ, zero, suc, ◌+◌, Err, None, Ok, Option, Result, Some}
use Rattle.records.specs.declared.layout.Counts.{Counts}
use Rattle.records.specs.declared.layout.Section.{Section}
use Rattle.records.specs.declared.layout.Section.TheVariants.{Layers, Interfaces, Stages, Locals, Types, Steps, Ports}
use Rattle.records.specs.declared.record.LayerRecord.{LayerRecord}
use Rattle.records.specs.declared.record.InterfaceRecord.{InterfaceRecord}
use Rattle.records.specs.declared.record.StageRecord.{StageRecord}
use Rattle.records.specs.declared.record.LocalRecord.{LocalRecord}
use Rattle.records.specs.declared.record.TypeRecord.{TypeRecord}
use Rattle.records.specs.declared.record.StepRecord.{StepRecord}
use Rattle.records.specs.declared.record.PortRecord.{PortRecord}
use Rattle.records.specs.declared.running.Running.{Running}
use Rattle.rules.specs.Faults.{layer_good, interface_good, stage_good, local_good, type_good, step_good, port_good}
use Rattle.records.specs.Layout.{size_of, count_of, start_of}
use Rattle.records.specs.Records.{layer_at, interface_at, stage_at, local_at, type_at, step_at, port_at}
use Rattle.records.specs.declared.running.Fault.{Fault}

-- lists are laid end to end: refs by layer, then interface, then stage
abbrev pub judge_layer : List ℕ → Counts → Running → LayerRecord → Option Running
judge_layer s c r l =
    cond (layer_good s c r l) (Some (record { refs = r.refs + l.stages.count; steps = r.steps; ports = r.ports })) None

abbrev pub judge_interface : List ℕ → Counts → Running → InterfaceRecord → Option Running
judge_interface s c r i =
    cond (interface_good s c r i) (Some (record { refs = r.refs + i.list.count; steps = r.steps; ports = r.ports })) None

-- steps by stage; ports by stage (header, then transfer data), then by step
abbrev pub judge_stage : List ℕ → Counts → Running → StageRecord → Option Running
judge_stage s c r t =
    cond (stage_good s c r t)
    (Some (record {
      refs = r.refs + t.declarations.count;
      steps = r.steps + t.steps.count;
      ports = r.ports + t.ports.count + t.payload;
    }))
    None

abbrev pub judge_local : Counts → Running → LocalRecord → Option Running
judge_local c r l = cond (local_good c l) (Some r) None

abbrev pub judge_type : Running → TypeRecord → Option Running
judge_type r t = cond (type_good t) (Some r) None

abbrev pub judge_step : Counts → Running → StepRecord → Option Running
judge_step c r t = cond (step_good c r t) (Some (record { refs = r.refs; steps = r.steps; ports = r.ports + t.ports.count })) None

abbrev pub judge_port : Counts → Running → PortRecord → Option Running
judge_port c r p = cond (port_good c p) (Some r) None

-- the record of a section at a place
abbrev pub judge : Section → List ℕ → Counts → ℕ → Running → Option Running
judge Layers s c p r = judge_layer s c r (layer_at s p)
judge Interfaces s c p r = judge_interface s c r (interface_at s p)
judge Stages s c p r = judge_stage s c r (stage_at s p)
judge Locals s c p r = judge_local c r (local_at s p)
judge Types s c p r = judge_type r (type_at s p)
judge Steps s c p r = judge_step c r (step_at s p)
judge Ports s c p r = judge_port c r (port_at s p)

-- a fault ends the walk at its record; else it goes on
abbrev pub after : ℕ → Option Running → (Running → Result Running Fault) → Result Running Fault
after p None go = Err (record { 0 = p })
after p (Some r) go = go r

-- n records of one size, from a place on
unfoldable pub walk : (ℕ → Running → Option Running) → ℕ → ℕ → ℕ → Running → Result Running Fault
walk f size zero p r = Ok r
walk f size (suc n) p r = after p (f p r) (λ q. walk f size n (p + size) q)

-- a section
abbrev pub walk_section : List ℕ → Counts → Section → Running → Result Running Fault
walk_section s c x r = walk (judge x s c) (size_of x) (count_of c x) (start_of c x) r

abbrev pub onwards : Result Running Fault → (Running → Result Running Fault) → Result Running Fault
onwards (Err p) go = Err p
onwards (Ok r) go = go r

-- section after section
unfoldable pub walk_all : List ℕ → Counts → List Section → Running → Result Running Fault
walk_all s c [] r = Ok r
walk_all s c (x ∷ xs) r = onwards (walk_section s c x r) (λ q. walk_all s c xs q)
