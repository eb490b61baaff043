-- A stage's header: document 01's number, and how many ports it has.
use Rattle.std.specs.Prelude.{List, [], ◌∷◌, ℕ, get_or, None, Option, Some}
use Rattle.vir.specs.declared.arity.Arity.{Arity}
use Rattle.vir.specs.declared.arity.Arity.TheVariants.{Exactly, AtLeast}
use Rattle.vir.specs.declared.header.Header.{Header}
use Rattle.vir.specs.declared.header.Header.TheVariants.{Bare, Const, Fn, Match, Closure, Fork, Drop, Entry}

abbrev pub header_number : Header → ℕ
header_number Bare = 0
header_number Const = 1
header_number Fn = 2
header_number Match = 3
header_number Closure = 4
header_number Fork = 5
header_number Drop = 6
header_number Entry = 7

-- in the order of the numbers
abbrev pub headers : List (Option Header)
headers =
    Some Bare ∷
    Some Const ∷
    Some Fn ∷
    Some Match ∷
    Some Closure ∷
    Some Fork ∷
    Some Drop ∷
    Some Entry ∷
    []

unfoldable pub header_of : ℕ → Option Header
header_of n = get_or headers n None

-- 0, 1, 1 or more, 1, 1 or more, 2, 0, any
abbrev pub header_ports : Header → Arity
header_ports Bare = Exactly 0
header_ports Const = Exactly 1
header_ports Fn = AtLeast 1
header_ports Match = Exactly 1
header_ports Closure = AtLeast 1
header_ports Fork = Exactly 2
header_ports Drop = Exactly 0
header_ports Entry = AtLeast 0
