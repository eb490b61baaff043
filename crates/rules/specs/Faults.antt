-- Document 01, "The image": whether a record keeps its rule, and where the next lists then start.
use Rattle.std.specs.Prelude.{Bool, false, cond, not, ◌&&◌, ◌||◌, List, ℕ, ◌+◌, ◌*◌, eqb, ltb, leb, None, Option, Some}
use Rattle.vir.specs.Arity.{allows}
use Rattle.vir.specs.Header.{header_of, header_ports}
use Rattle.vir.specs.Ids.{none, idx}
use Rattle.vir.specs.Interface.{kind_of, entries_of}
use Rattle.vir.specs.Step.{step_of, step_ports}
use Rattle.records.specs.declared.layout.Counts.{Counts}
use Rattle.records.specs.declared.record.Run.{Run}
use Rattle.records.specs.declared.record.LayerRecord.{LayerRecord}
use Rattle.records.specs.declared.record.InterfaceRecord.{InterfaceRecord}
use Rattle.records.specs.declared.record.StageRecord.{StageRecord}
use Rattle.records.specs.declared.record.LocalRecord.{LocalRecord}
use Rattle.records.specs.declared.record.TypeRecord.{TypeRecord}
use Rattle.records.specs.declared.record.StepRecord.{StepRecord}
use Rattle.records.specs.declared.record.PortRecord.{PortRecord}
use Rattle.records.specs.declared.running.Running.{Running}
use Rattle.records.specs.Bytes.{u16_at}
use Rattle.records.specs.Every.{every}
use Rattle.records.specs.Layout.{refs_at}
use Rattle.vir.specs.declared.interface.InterfaceKind.{InterfaceKind}
use Rattle.vir.specs.declared.header.Header.{Header}
use Rattle.vir.specs.declared.step.Step.{Step}

-- an index names an existing record, or is none where that is allowed
abbrev pub or_none : ℕ → ℕ → Bool
or_none n i = eqb i none || ltb i n

-- a type is a number below the type count, bit 15 for inverse
abbrev pub type_named : Counts → ℕ → Bool
type_named c t = ltb (idx t) c.types

-- bits 0..3: inv, fork, drop, self_inverse; others 0
abbrev pub flags_good : ℕ → Bool
flags_good f = ltb f 16

-- a first field equals the running place, and a list does not run past its section
abbrev pub laid : ℕ → ℕ → Run → Bool
laid running total run = eqb run.first running && leb (run.first + run.count) total

-- where a list of refs lies
abbrev pub list_at : Counts → Run → ℕ
list_at c run = refs_at c + 2 * run.first

-- each entry names one of n records
abbrev pub refs_below : List ℕ → Counts → Run → ℕ → Bool
refs_below s c run n = every run.count (λ k. ltb (u16_at s (list_at c run + 2 * k)) n)

-- parent u16?, stage list
abbrev pub layer_fields : Counts → Running → LayerRecord → Bool
layer_fields c r l = or_none c.layers l.parent.0 && laid r.refs c.refs l.stages

unfoldable pub layer_good : List ℕ → Counts → Running → LayerRecord → Bool
layer_good s c r l = layer_fields c r l && refs_below s c l.stages c.stages

-- counts 1, 2, any, 3, any
abbrev pub kind_lists : Option InterfaceKind → ℕ → Bool
kind_lists (Some k) n = allows (entries_of k) n
kind_lists None n = false

-- Closure's second and third entry may be none
abbrev pub closure_at : List ℕ → ℕ → ℕ → Bool
closure_at s p n = ltb (u16_at s p) n && or_none n (u16_at s (p + 2)) && or_none n (u16_at s (p + 4))

-- Inspect lists locals, the others stages
abbrev pub entries_named : List ℕ → Counts → InterfaceRecord → Bool
entries_named s c i =
    cond (eqb i.kind 4)
    (refs_below s c i.list c.locals)
    (cond (eqb i.kind 3) (closure_at s (list_at c i.list) c.stages) (refs_below s c i.list c.stages))

-- key 0 unless Match; the layer is judged only by the layer rules
abbrev pub interface_fields : Counts → Running → InterfaceRecord → Bool
interface_fields c r i =
    kind_lists (kind_of i.kind) i.list.count
    && (eqb i.kind 2 || eqb i.key 0)
    && laid r.refs c.refs i.list

unfoldable pub interface_good : List ℕ → Counts → Running → InterfaceRecord → Bool
interface_good s c r i = interface_fields c r i && entries_named s c i

abbrev pub header_has : Option Header → ℕ → Bool
header_has (Some h) n = allows (header_ports h) n
header_has None n = false

-- the header's ports, with the transfer's data port behind them uncounted
abbrev pub ports_laid : ℕ → ℕ → Run → ℕ → Bool
ports_laid running total run payload = eqb run.first running && leb (run.first + run.count + payload) total

-- transfer interface u16?, transfer data u8 (0 or 1; 0 without transfer)
abbrev pub transfer_good : Counts → StageRecord → Bool
transfer_good c t = or_none c.interfaces t.transfer.0 && leb t.payload 1 && (eqb t.payload 0 || not (eqb t.transfer.0 none))

-- the wire counter and the key are any
abbrev pub stage_named : Counts → StageRecord → Bool
stage_named c t =
    ltb t.interface.0 c.interfaces
    && or_none c.layers t.layer.0
    && header_has (header_of t.header) t.ports.count
    && transfer_good c t

abbrev pub stage_lists : Counts → Running → StageRecord → Bool
stage_lists c r t =
    ports_laid r.ports c.ports t.ports t.payload
    && laid r.steps c.steps t.steps
    && laid r.refs c.refs t.declarations

abbrev pub stage_fields : Counts → Running → StageRecord → Bool
stage_fields c r t = stage_named c t && stage_lists c r t

unfoldable pub stage_good : List ℕ → Counts → Running → StageRecord → Bool
stage_good s c r t = stage_fields c r t && refs_below s c t.declarations c.locals

abbrev pub local_good : Counts → LocalRecord → Bool
local_good c l = type_named c l.ty.0 && flags_good l.flags

abbrev pub type_good : TypeRecord → Bool
type_good t = flags_good t.upright && flags_good t.inverted

abbrev pub step_has : Option Step → ℕ → Bool
step_has (Some s) n = allows (step_ports s) n
step_has None n = false

-- Invoke: b local. Transfer: a 0, b interface. Diverge: a target layer, b interface?. The others: b 0
abbrev pub step_named : Counts → StepRecord → Bool
step_named c t =
    cond (leb t.tag 5)
    (ltb t.b c.locals)
    (cond (eqb t.tag 6)
    (eqb t.a 0 && ltb t.b c.interfaces)
    (cond (eqb t.tag 7) (ltb t.a c.layers && or_none c.interfaces t.b) (eqb t.b 0)))

abbrev pub step_fields : Counts → StepRecord → Bool
step_fields c t = step_has (step_of t.tag t.a t.b) t.ports.count && step_named c t

abbrev pub step_good : Counts → Running → StepRecord → Bool
step_good c r t = step_fields c t && laid r.ports c.ports t.ports

-- kind 0..7, 6 Wire; b is 0 but for a wire
abbrev pub port_good : Counts → PortRecord → Bool
port_good c p = type_named c p.ty.0 && leb p.kind 7 && (eqb p.kind 6 || eqb p.b 0)
