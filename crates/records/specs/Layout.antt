-- Document 01, "The image": the counts, their maxima, the records' sizes, and where each section starts.
use Rattle.std.specs.Prelude.{Bool, not, ◌&&◌, List, [], ◌∷◌, ℕ, ◌+◌, ◌*◌, ◌≤◌, ◌≡◌, eqb, leb, length}
use Rattle.records.specs.declared.layout.Counts.{Counts}
use Rattle.records.specs.declared.layout.Section.{Section}
use Rattle.records.specs.declared.layout.Section.TheVariants.{Layers, Interfaces, Stages, Locals, Types, Steps, Ports}
use Rattle.records.specs.Bytes.{u16_at}

-- eight u16 counts, after the mark and the version
abbrev pub counts_of : List ℕ → Counts
counts_of s = record {
  layers = u16_at s 5;
  interfaces = u16_at s 7;
  stages = u16_at s 9;
  locals = u16_at s 11;
  types = u16_at s 13;
  steps = u16_at s 15;
  ports = u16_at s 17;
  refs = u16_at s 19;
}

-- the version of the image
abbrev pub version : ℕ
version = 1

-- the bytes of the header, and of a record of each section
abbrev pub head_size : ℕ
head_size = 21

abbrev pub layer_size : ℕ
layer_size = 6

abbrev pub interface_size : ℕ
interface_size = 9

abbrev pub stage_size : ℕ
stage_size = 30

abbrev pub local_size : ℕ
local_size = 7

abbrev pub type_size : ℕ
type_size = 2

abbrev pub step_size : ℕ
step_size = 11

abbrev pub port_size : ℕ
port_size = 9

abbrev pub ref_size : ℕ
ref_size = 2

abbrev pub layers_at : Counts → ℕ
layers_at c = head_size

abbrev pub interfaces_at : Counts → ℕ
interfaces_at c = layers_at c + layer_size * c.layers

abbrev pub stages_at : Counts → ℕ
stages_at c = interfaces_at c + interface_size * c.interfaces

abbrev pub locals_at : Counts → ℕ
locals_at c = stages_at c + stage_size * c.stages

abbrev pub types_at : Counts → ℕ
types_at c = locals_at c + local_size * c.locals

abbrev pub steps_at : Counts → ℕ
steps_at c = types_at c + type_size * c.types

abbrev pub ports_at : Counts → ℕ
ports_at c = steps_at c + step_size * c.steps

abbrev pub refs_at : Counts → ℕ
refs_at c = ports_at c + port_size * c.ports

-- the length that the counts give
abbrev pub length_of : Counts → ℕ
length_of c = refs_at c + ref_size * c.refs

-- interfaces above 0, and no count over its maximum
abbrev pub within : Counts → Bool
within c =
    not (eqb c.interfaces 0)
    && leb c.layers 64
    && leb c.interfaces 256
    && leb c.stages 256
    && leb c.locals 256
    && leb c.types 1024
    && leb c.steps 2048
    && leb c.ports 2560
    && leb c.refs 2048

-- bytes of the length that the counts give, which are within their maxima
pub record Sized (s : List ℕ) (c : Counts) : Type 0 where
  pub long : length s ≡ length_of c
  pub layers : c.layers ≤ 64
  pub interfaces : c.interfaces ≤ 256
  pub stages : c.stages ≤ 256
  pub locals : c.locals ≤ 256
  pub types : c.types ≤ 1024
  pub steps : c.steps ≤ 2048
  pub ports : c.ports ≤ 2560
  pub refs : c.refs ≤ 2048

-- the sections of records, in the order of the file
abbrev pub sections : List Section
sections = Layers ∷ Interfaces ∷ Stages ∷ Locals ∷ Types ∷ Steps ∷ Ports ∷ []

abbrev pub size_of : Section → ℕ
size_of Layers = layer_size
size_of Interfaces = interface_size
size_of Stages = stage_size
size_of Locals = local_size
size_of Types = type_size
size_of Steps = step_size
size_of Ports = port_size

abbrev pub count_of : Counts → Section → ℕ
count_of c Layers = c.layers
count_of c Interfaces = c.interfaces
count_of c Stages = c.stages
count_of c Locals = c.locals
count_of c Types = c.types
count_of c Steps = c.steps
count_of c Ports = c.ports

abbrev pub start_of : Counts → Section → ℕ
start_of c Layers = layers_at c
start_of c Interfaces = interfaces_at c
start_of c Stages = stages_at c
start_of c Locals = locals_at c
start_of c Types = types_at c
start_of c Steps = steps_at c
start_of c Ports = ports_at c

-- where record k of a section stands
abbrev pub place_of : Counts → Section → ℕ → ℕ
place_of c x k = start_of c x + size_of x * k
