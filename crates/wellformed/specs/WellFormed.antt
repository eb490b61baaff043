-- Which values make an image that check takes, but for kind and layer rules: document 01's rules of records, said of a value.
use Rattle.std.specs.Prelude.{Bool as Truth, true, false, not, ◌&&◌, ◌||◌, ◌≡◌, List, [], ◌∷◌, ℕ, eqb, ltb, leb, length, None, Option, Some}
use Rattle.vir.specs.declared.interface.InterfaceKind.{InterfaceKind}
use Rattle.vir.specs.declared.interface.InterfaceKind.TheVariants.{Unconditional, Branch, Match, Closure, Inspect}
use Rattle.vir.specs.declared.port.PortKind.{PortKind}
use Rattle.vir.specs.declared.port.PortKind.TheVariants.{Nil, Bool, N32, F32, F64, Nat, Wire, Error}
use Rattle.vir.specs.declared.step.Step.{Step}
use Rattle.vir.specs.declared.step.Step.TheVariants.{Invoke, Transfer, Diverge, Link, Call, Const, Composite, Rewrap, Enum, Union, Ref, List as Listing, String, InlineIvy, BoolNot, BoolAnd}
use Rattle.vir.specs.Arity.{allows}
use Rattle.vir.specs.Header.{header_ports}
use Rattle.vir.specs.Ids.{none}
use Rattle.vir.specs.Interface.{kind_number, entries_of}
use Rattle.vir.specs.Step.{step_ports}
use Rattle.records.specs.declared.layout.Counts.{Counts}
use Rattle.rules.specs.Faults.{or_none, type_named, flags_good}
use Rattle.records.specs.Layout.{within}
use Rattle.image.specs.Encode.{all_actions, all_ports, counts_of_vir}
use Rattle.image.specs.Kind.{all}
use Rattle.image.specs.Vir.{Layer, Interface, Port, Action, Stage, Local, Flex, Vir}
use Rattle.vir.specs.declared.ids.InterfaceId.{InterfaceId}

-- a number fits a field of 16 bits, or of 32
abbrev pub u16_fits : ℕ → Truth
u16_fits n = ltb n 65536

abbrev pub u32_fits : ℕ → Truth
u32_fits n = ltb n 4294967296

module _ (c : Counts) where
  abbrev pub layer_fits : Layer → Truth
  layer_fits l = or_none c.layers l.parent && all (λ t. ltb t c.stages) l.stages

  -- Closure's second and third entry may be none
  abbrev pub closure_fits : List ℕ → Truth
  closure_fits [] = false
  closure_fits (call ∷ more) = ltb call c.stages && all (or_none c.stages) more

  -- Inspect lists locals, the others stages
  abbrev pub entries_fit : InterfaceKind → List ℕ → Truth
  entries_fit Unconditional l = all (λ t. ltb t c.stages) l
  entries_fit Branch l = all (λ t. ltb t c.stages) l
  entries_fit Match l = all (λ t. ltb t c.stages) l
  entries_fit Closure l = closure_fits l
  entries_fit Inspect l = all (λ x. ltb x c.locals) l

  -- key 0 unless Match
  abbrev pub interface_fits : Interface → Truth
  interface_fits i =
      u16_fits i.layer
      && allows (entries_of i.kind) (length i.list)
      && u16_fits i.key
      && (eqb (kind_number i.kind) 2 || eqb i.key 0)
      && entries_fit i.kind i.list

  -- transfer data 0 or 1; 0 without transfer
  abbrev pub stage_fits : Stage → Truth
  stage_fits t =
      u32_fits t.span
      && ltb t.interface c.interfaces
      && or_none c.layers t.layer
      && allows (header_ports t.header) (length t.ports)
      && u32_fits t.key
      && all (λ l. ltb l c.locals) t.declarations
      && u16_fits t.wires
      && or_none c.interfaces t.transfer
      && leb (length t.payload) 1
      && (eqb (length t.payload) 0 || not (eqb t.transfer none))

  abbrev pub local_fits : Local → Truth
  local_fits l = u32_fits l.span && u16_fits l.ty && type_named c l.ty && flags_good l.flags

  abbrev pub onward_fits : Option InterfaceId → Truth
  onward_fits (Some i) = ltb i.0 c.interfaces
  onward_fits None = true

  abbrev pub step_fits : Step → Truth
  step_fits (Invoke span l i) = u32_fits span.0 && ltb l.0 c.locals
  step_fits (Transfer i) = ltb i.0 c.interfaces
  step_fits (Diverge l o) = ltb l.0 c.layers && onward_fits o
  step_fits (Link k) = u32_fits k
  step_fits (Call k) = u32_fits k
  step_fits (Const k) = u32_fits k
  step_fits (Composite k) = u32_fits k
  step_fits (Rewrap k) = u32_fits k
  step_fits (Enum k) = u32_fits k
  step_fits (Union k) = u32_fits k
  step_fits (Ref k) = u32_fits k
  step_fits (Listing k) = u32_fits k
  step_fits (String k) = u32_fits k
  step_fits (InlineIvy k) = u32_fits k
  step_fits (BoolNot k) = u32_fits k
  step_fits (BoolAnd k) = u32_fits k

  abbrev pub action_fits : Action → Truth
  action_fits a = allows (step_ports a.step) (length a.ports) && step_fits a.step

  abbrev pub port_kind_fits : PortKind → Truth
  port_kind_fits (Nil a) = u32_fits a
  port_kind_fits (Bool a) = u32_fits a
  port_kind_fits (N32 a) = u32_fits a
  port_kind_fits (F32 a) = u32_fits a
  port_kind_fits (F64 a) = u32_fits a
  port_kind_fits (Nat a) = u32_fits a
  port_kind_fits (Wire span w) = u32_fits span.0 && u16_fits w.0
  port_kind_fits (Error a) = u32_fits a

  abbrev pub port_fits : Port → Truth
  port_fits p = u16_fits p.ty && type_named c p.ty && port_kind_fits p.kind

abbrev pub flex_fits : Flex → Truth
flex_fits t = flags_good t.upright && flags_good t.inverted

-- every record keeps its rule, and no count is over its maximum
pub record WellFormed (v : Vir) : Type 0 where
  pub counted : within (counts_of_vir v) ≡ true
  pub layers : all (layer_fits (counts_of_vir v)) v.layers ≡ true
  pub interfaces : all (interface_fits (counts_of_vir v)) v.interfaces ≡ true
  pub stages : all (stage_fits (counts_of_vir v)) v.stages ≡ true
  pub locals : all (local_fits (counts_of_vir v)) v.locals ≡ true
  pub types : all flex_fits v.types ≡ true
  pub actions : all (action_fits (counts_of_vir v)) (all_actions v) ≡ true
  pub ports : all (port_fits (counts_of_vir v)) (all_ports v) ≡ true
