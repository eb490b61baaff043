-- A port's kind: document 01's number, and what its fields say.
use Rattle.std.specs.Prelude.{List, [], ◌∷◌, ℕ, get_or, None, Option, Some}
use Rattle.vir.specs.declared.port.PortKind.{PortKind}
use Rattle.vir.specs.declared.port.PortKind.TheVariants.{Nil, Bool, N32, F32, F64, Nat, Wire, Error}

abbrev pub port_number : PortKind → ℕ
port_number (Nil a) = 0
port_number (Bool a) = 1
port_number (N32 a) = 2
port_number (F32 a) = 3
port_number (F64 a) = 4
port_number (Nat a) = 5
port_number (Wire span wire) = 6
port_number (Error a) = 7

-- in the order of the numbers
abbrev pub ports : ℕ → ℕ → List (Option PortKind)
ports a b =
    Some (Nil a) ∷
    Some (Bool a) ∷
    Some (N32 a) ∷
    Some (F32 a) ∷
    Some (F64 a) ∷
    Some (Nat a) ∷
    Some (Wire (record { 0 = a }) (record { 0 = b })) ∷
    Some (Error a) ∷
    []

unfoldable pub port_of : ℕ → ℕ → ℕ → Option PortKind
port_of kind a b = get_or (ports a b) kind None
