-- Document 01, "The image": each record at its place.
use Rattle.std.specs.Prelude.{List, ℕ, ◌+◌}
use Rattle.records.specs.declared.record.Run.{Run}
use Rattle.records.specs.declared.record.LayerRecord.{LayerRecord}
use Rattle.records.specs.declared.record.InterfaceRecord.{InterfaceRecord}
use Rattle.records.specs.declared.record.StageRecord.{StageRecord}
use Rattle.records.specs.declared.record.LocalRecord.{LocalRecord}
use Rattle.records.specs.declared.record.TypeRecord.{TypeRecord}
use Rattle.records.specs.declared.record.StepRecord.{StepRecord}
use Rattle.records.specs.declared.record.PortRecord.{PortRecord}
use Rattle.records.specs.Bytes.{u8_at, u16_at, u32_at}

-- a list: first, count
abbrev pub run_at : List ℕ → ℕ → Run
run_at s p = record { first = u16_at s p; count = u16_at s (p + 2) }

-- layer 6: parent u16?, stage list
abbrev pub layer_at : List ℕ → ℕ → LayerRecord
layer_at s p = record { parent = record { 0 = u16_at s p }; stages = run_at s (p + 2) }

-- interface 9: layer u16?, kind u8, key u16, list
abbrev pub interface_at : List ℕ → ℕ → InterfaceRecord
interface_at s p = record { layer = record { 0 = u16_at s p }; kind = u8_at s (p + 2); key = u16_at s (p + 3); list = run_at s (p + 5) }

-- stage 30: span u32, interface u16, layer u16?, header tag u8, key u32, ports, declarations, steps, wire counter u16, transfer interface u16?,
-- transfer data u8
abbrev pub stage_at : List ℕ → ℕ → StageRecord
stage_at s p = record {
  span = record { 0 = u32_at s p };
  interface = record { 0 = u16_at s (p + 4) };
  layer = record { 0 = u16_at s (p + 6) };
  header = u8_at s (p + 8);
  key = u32_at s (p + 9);
  ports = run_at s (p + 13);
  declarations = run_at s (p + 17);
  steps = run_at s (p + 21);
  wires = u16_at s (p + 25);
  transfer = record { 0 = u16_at s (p + 27) };
  payload = u8_at s (p + 29);
}

-- local 7: span u32, type u16, flags u8
abbrev pub local_at : List ℕ → ℕ → LocalRecord
local_at s p = record { span = record { 0 = u32_at s p }; ty = record { 0 = u16_at s (p + 4) }; flags = u8_at s (p + 6) }

-- type 2: flag bytes of the upright and of the inverted type
abbrev pub type_at : List ℕ → ℕ → TypeRecord
type_at s p = record { upright = u8_at s p; inverted = u8_at s (p + 1) }

-- step 11: tag u8, a u32, b u16, ports
abbrev pub step_at : List ℕ → ℕ → StepRecord
step_at s p = record { tag = u8_at s p; a = u32_at s (p + 1); b = u16_at s (p + 5); ports = run_at s (p + 7) }

-- port 9: type u16, kind u8, a u32, b u16
abbrev pub port_at : List ℕ → ℕ → PortRecord
port_at s p = record { ty = record { 0 = u16_at s p }; kind = u8_at s (p + 2); a = u32_at s (p + 3); b = u16_at s (p + 7) }
