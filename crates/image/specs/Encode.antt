-- A value written out as an image: the records in file order, the lists laid end to end.
-- (Nothing is cut off: a number that does not fit its field leaves one above 255. `encoded` of wellformed says that a well-formed value gives bytes.)
use Rattle.std.specs.Prelude.{Bool as Truth, true, not, ◌&&◌, List, [], ◌∷◌, ◌++◌, ◌≡◌, ℕ, ◌+◌, ◌/◌, ◌%◌, eqb, leb, length, None, Option, Some}
use Rattle.vir.specs.declared.port.PortKind.{PortKind}
use Rattle.vir.specs.declared.port.PortKind.TheVariants.{Nil, Bool, N32, F32, F64, Nat, Wire, Error}
use Rattle.vir.specs.declared.step.Step.{Step}
use Rattle.vir.specs.declared.step.Step.TheVariants.{Invoke, Transfer, Diverge, Link, Call, Const, Composite, Rewrap, Enum, Union, Ref, List as Listing, String, InlineIvy, BoolNot, BoolAnd}
use Rattle.vir.specs.Header.{header_number}
use Rattle.vir.specs.Ids.{none}
use Rattle.vir.specs.Interface.{kind_number}
use Rattle.vir.specs.Port.{port_number}
use Rattle.vir.specs.Step.{step_tag}
use Rattle.records.specs.declared.layout.Counts.{Counts}
use Rattle.records.specs.Layout.{version}
use Rattle.image.specs.Kind.{all, concat}
use Rattle.image.specs.Vir.{Layer, Interface, Port, Action, Stage, Local, Flex, Vir}
use Rattle.vir.specs.declared.ids.InterfaceId.{InterfaceId}

abbrev pub u16_bytes : ℕ → List ℕ
u16_bytes n = n % 256 ∷ n / 256 ∷ []

abbrev pub u32_bytes : ℕ → List ℕ
u32_bytes n = u16_bytes (n % 65536) ++ u16_bytes (n / 65536)

-- a list: first, count
abbrev pub run_bytes : ℕ → ℕ → List ℕ
run_bytes first count = u16_bytes first ++ u16_bytes count

-- a step's fields a and b
abbrev pub step_a : Step → ℕ
step_a (Invoke span l i) = span.0
step_a (Transfer i) = 0
step_a (Diverge l o) = l.0
step_a (Link k) = k
step_a (Call k) = k
step_a (Const k) = k
step_a (Composite k) = k
step_a (Rewrap k) = k
step_a (Enum k) = k
step_a (Union k) = k
step_a (Ref k) = k
step_a (Listing k) = k
step_a (String k) = k
step_a (InlineIvy k) = k
step_a (BoolNot k) = k
step_a (BoolAnd k) = k

abbrev pub onward_b : Option InterfaceId → ℕ
onward_b (Some i) = i.0
onward_b None = none

abbrev pub step_b : Step → ℕ
step_b (Invoke span l i) = l.0
step_b (Transfer i) = i.0
step_b (Diverge l o) = onward_b o
step_b (Link k) = 0
step_b (Call k) = 0
step_b (Const k) = 0
step_b (Composite k) = 0
step_b (Rewrap k) = 0
step_b (Enum k) = 0
step_b (Union k) = 0
step_b (Ref k) = 0
step_b (Listing k) = 0
step_b (String k) = 0
step_b (InlineIvy k) = 0
step_b (BoolNot k) = 0
step_b (BoolAnd k) = 0

-- a port's fields a and b
abbrev pub port_a : PortKind → ℕ
port_a (Nil a) = a
port_a (Bool a) = a
port_a (N32 a) = a
port_a (F32 a) = a
port_a (F64 a) = a
port_a (Nat a) = a
port_a (Wire span w) = span.0
port_a (Error a) = a

abbrev pub port_b : PortKind → ℕ
port_b (Nil a) = 0
port_b (Bool a) = 0
port_b (N32 a) = 0
port_b (F32 a) = 0
port_b (F64 a) = 0
port_b (Nat a) = 0
port_b (Wire span w) = w.0
port_b (Error a) = 0

-- layers from a running place in refs on
unfoldable pub layers_bytes : ℕ → List Layer → List ℕ
layers_bytes refs [] = []
layers_bytes refs (l ∷ ls) = u16_bytes l.parent ++ run_bytes refs (length l.stages) ++ layers_bytes (refs + length l.stages) ls

unfoldable pub interfaces_bytes : ℕ → List Interface → List ℕ
interfaces_bytes refs [] = []
interfaces_bytes refs (i ∷ is) =
    u16_bytes i.layer
    ++ (kind_number i.kind ∷ [])
    ++ u16_bytes i.key
    ++ run_bytes refs (length i.list)
    ++ interfaces_bytes (refs + length i.list) is

-- stages from running places in refs, steps and ports on
unfoldable pub stages_bytes : ℕ → ℕ → ℕ → List Stage → List ℕ
stages_bytes refs steps ports [] = []
stages_bytes refs steps ports (t ∷ ts) =
    u32_bytes t.span
    ++ u16_bytes t.interface
    ++ u16_bytes t.layer
    ++ (header_number t.header ∷ [])
    ++ u32_bytes t.key
    ++ run_bytes ports (length t.ports)
    ++ run_bytes refs (length t.declarations)
    ++ run_bytes steps (length t.steps)
    ++ u16_bytes t.wires
    ++ u16_bytes t.transfer
    ++ (length t.payload ∷ [])
    ++ stages_bytes (refs + length t.declarations) (steps + length t.steps) (ports + length t.ports + length t.payload) ts

abbrev pub local_bytes : Local → List ℕ
local_bytes l = u32_bytes l.span ++ u16_bytes l.ty ++ (l.flags ∷ [])

abbrev pub flex_bytes : Flex → List ℕ
flex_bytes t = t.upright ∷ t.inverted ∷ []

-- steps from a running place in ports on
unfoldable pub actions_bytes : ℕ → List Action → List ℕ
actions_bytes ports [] = []
actions_bytes ports (a ∷ as') =
    (step_tag a.step ∷ [])
    ++ u32_bytes (step_a a.step)
    ++ u16_bytes (step_b a.step)
    ++ run_bytes ports (length a.ports)
    ++ actions_bytes (ports + length a.ports) as'

abbrev pub port_bytes : Port → List ℕ
port_bytes p = u16_bytes p.ty ++ (port_number p.kind ∷ []) ++ u32_bytes (port_a p.kind) ++ u16_bytes (port_b p.kind)

-- what is laid end to end: steps by stage; ports by stage (header, then transfer data), then by step; refs by layer, then interface, then stage
abbrev pub all_actions : Vir → List Action
all_actions v = concat (λ t. t.steps) v.stages

abbrev pub stage_ports : Vir → List Port
stage_ports v = concat (λ t. t.ports ++ t.payload) v.stages

abbrev pub all_ports : Vir → List Port
all_ports v = stage_ports v ++ concat (λ a. a.ports) (all_actions v)

abbrev pub layer_refs : Vir → List ℕ
layer_refs v = concat (λ l. l.stages) v.layers

abbrev pub interface_refs : Vir → List ℕ
interface_refs v = concat (λ i. i.list) v.interfaces

abbrev pub all_refs : Vir → List ℕ
all_refs v = layer_refs v ++ interface_refs v ++ concat (λ t. t.declarations) v.stages

-- the counts of the image that a value makes
abbrev pub counts_of_vir : Vir → Counts
counts_of_vir v = record {
  layers = length v.layers;
  interfaces = length v.interfaces;
  stages = length v.stages;
  locals = length v.locals;
  types = length v.types;
  steps = length (all_actions v);
  ports = length (all_ports v);
  refs = length (all_refs v);
}

abbrev pub count_bytes : Vir → List ℕ
count_bytes v =
    u16_bytes (length v.layers)
    ++ u16_bytes (length v.interfaces)
    ++ u16_bytes (length v.stages)
    ++ u16_bytes (length v.locals)
    ++ u16_bytes (length v.types)
    ++ u16_bytes (length (all_actions v))
    ++ u16_bytes (length (all_ports v))
    ++ u16_bytes (length (all_refs v))

-- `VIR`, version 1, the counts, and the sections in their order
unfoldable pub encode : Vir → List ℕ
encode v =
    (86 ∷ 73 ∷ 82 ∷ [])
    ++ u16_bytes version
    ++ count_bytes v
    ++ layers_bytes 0 v.layers
    ++ interfaces_bytes (length (layer_refs v)) v.interfaces
    ++ stages_bytes (length (layer_refs v) + length (interface_refs v)) 0 0 v.stages
    ++ concat local_bytes v.locals
    ++ concat flex_bytes v.types
    ++ actions_bytes (length (stage_ports v)) (all_actions v)
    ++ concat port_bytes (all_ports v)
    ++ concat u16_bytes (all_refs v)

-- a Diverge that goes to `none` has the bytes of one that goes nowhere
abbrev pub plain_onward : Option InterfaceId → Truth
plain_onward (Some i) = not (eqb i.0 none)
plain_onward None = true

-- its layer, a u16 in the Rust, is written in 32 bits, and one that needs more than 16 is read as `none`
abbrev pub plain_step : Step → Truth
plain_step (Invoke span l i) = true
plain_step (Transfer i) = true
plain_step (Diverge l o) = leb l.0 none && plain_onward o
plain_step (Link k) = true
plain_step (Call k) = true
plain_step (Const k) = true
plain_step (Composite k) = true
plain_step (Rewrap k) = true
plain_step (Enum k) = true
plain_step (Union k) = true
plain_step (Ref k) = true
plain_step (Listing k) = true
plain_step (String k) = true
plain_step (InlineIvy k) = true
plain_step (BoolNot k) = true
plain_step (BoolAnd k) = true

-- a value that has no step of which the bytes say less
abbrev pub Plain : Vir → Type 0
Plain v = all (λ a. plain_step a.step) (all_actions v) ≡ true
