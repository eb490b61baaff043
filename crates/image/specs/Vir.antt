-- The image as a value: what the Rust calls `Vir`. A record holds its own lists; "none" is a number, as in the image.
use Rattle.std.specs.Prelude.{List, [], ℕ, get_or}
use Rattle.vir.specs.declared.header.Header.{Header}
use Rattle.vir.specs.declared.header.Header.TheVariants.{Bare}
use Rattle.vir.specs.declared.interface.InterfaceKind.{InterfaceKind}
use Rattle.vir.specs.declared.interface.InterfaceKind.TheVariants.{Inspect}
use Rattle.vir.specs.declared.port.PortKind.{PortKind}
use Rattle.vir.specs.declared.step.Step.{Step}
use Rattle.vir.specs.Ids.{none}

pub record Layer : Type 0 where
  pub parent : ℕ
  pub stages : List ℕ

-- `list` has the stages of the kind, or the locals of an Inspect; `key` is a Match's
pub record Interface : Type 0 where
  pub layer : ℕ
  pub kind : InterfaceKind
  pub key : ℕ
  pub list : List ℕ

-- a type has bit 15 for inverse
pub record Port : Type 0 where
  pub ty : ℕ
  pub kind : PortKind

-- a step with its ports, in the order of `Step::ports`
pub record Action : Type 0 where
  pub step : Step
  pub ports : List Port

-- `transfer` and `payload` are the Rust's `Option<Transfer>`: its interface or none, and its data port or nothing
pub record Stage : Type 0 where
  pub span : ℕ
  pub interface : ℕ
  pub layer : ℕ
  pub header : Header
  pub key : ℕ
  pub ports : List Port
  pub declarations : List ℕ
  pub steps : List Action
  pub wires : ℕ
  pub transfer : ℕ
  pub payload : List Port

-- flags: bits 0..3: inv, fork, drop, self_inverse
pub record Local : Type 0 where
  pub span : ℕ
  pub ty : ℕ
  pub flags : ℕ

-- a type's flags, upright and inverted
pub record Flex : Type 0 where
  pub upright : ℕ
  pub inverted : ℕ

pub record Vir : Type 0 where
  pub layers : List Layer
  pub interfaces : List Interface
  pub stages : List Stage
  pub locals : List Local
  pub types : List Flex

-- records by their numbers; past the last stands one that names nothing
abbrev pub layer_of : Vir → ℕ → Layer
layer_of v l = get_or v.layers l (record { parent = none; stages = [] })

abbrev pub interface_of : Vir → ℕ → Interface
interface_of v i = get_or v.interfaces i (record { layer = none; kind = Inspect; key = 0; list = [] })

abbrev pub stage_of : Vir → ℕ → Stage
stage_of v t =
    get_or v.stages t
    (record {
      span = 0;
      interface = none;
      layer = none;
      header = Bare;
      key = 0;
      ports = [];
      declarations = [];
      steps = [];
      wires = 0;
      transfer = none;
      payload = [];
    })
