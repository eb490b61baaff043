-- Numbers: which means none, and a type's inverse.
use Rattle.std.specs.Prelude.{Bool, cond, ℕ, ◌+◌, ◌-◌, ◌%◌, min, leb, ltb}
use Rattle.vir.specs.declared.ids.LayerId.{LayerId}

-- document 01: 65535 means none
abbrev pub none : ℕ
none = 65535

-- the layer that 32 bits name; none is the largest number
abbrev pub layer_id_of : ℕ → LayerId
layer_id_of a = record { 0 = min a none }

-- the type with bit 15, which says inverse, turned
abbrev pub inverse : ℕ → ℕ
inverse t = cond (ltb t 32768) (t + 32768) (t - 32768)

-- whether a type is an inverse
abbrev pub is_inverse : ℕ → Bool
is_inverse t = leb 32768 t

-- the type's number without that bit
abbrev pub idx : ℕ → ℕ
idx t = t % 32768
