-- An interface's kind: document 01's number, and how many entries it lists.
use Rattle.std.specs.Prelude.{List, [], ◌∷◌, ℕ, get_or, None, Option, Some}
use Rattle.vir.specs.declared.arity.Arity.{Arity}
use Rattle.vir.specs.declared.arity.Arity.TheVariants.{Exactly, AtLeast}
use Rattle.vir.specs.declared.interface.InterfaceKind.{InterfaceKind}
use Rattle.vir.specs.declared.interface.InterfaceKind.TheVariants.{Unconditional, Branch, Match, Closure, Inspect}

abbrev pub kind_number : InterfaceKind → ℕ
kind_number Unconditional = 0
kind_number Branch = 1
kind_number Match = 2
kind_number Closure = 3
kind_number Inspect = 4

-- in the order of the numbers
abbrev pub kinds : List (Option InterfaceKind)
kinds =
    Some Unconditional ∷
    Some Branch ∷
    Some Match ∷
    Some Closure ∷
    Some Inspect ∷
    []

unfoldable pub kind_of : ℕ → Option InterfaceKind
kind_of n = get_or kinds n None

-- 1, 2, any, 3, any
abbrev pub entries_of : InterfaceKind → Arity
entries_of Unconditional = Exactly 1
entries_of Branch = Exactly 2
entries_of Match = AtLeast 0
entries_of Closure = Exactly 3
entries_of Inspect = AtLeast 0
