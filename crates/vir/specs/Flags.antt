-- A flag byte of a local or of a type: bits 0 to 3 are inv, fork, drop and self_inverse.
use Rattle.std.specs.Prelude.{Bool, ℕ, ◌/◌, ◌%◌, eqb}

abbrev pub inv : ℕ → Bool
inv flags = eqb (flags % 2) 1

-- of fork and drop only whether they exist
abbrev pub fork : ℕ → Bool
fork flags = eqb (flags / 2 % 2) 1

abbrev pub drop : ℕ → Bool
drop flags = eqb (flags / 4 % 2) 1

abbrev pub self_inverse : ℕ → Bool
self_inverse flags = eqb (flags / 8 % 2) 1
