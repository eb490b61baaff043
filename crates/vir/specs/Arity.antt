-- How many entries a list may have.
use Rattle.std.specs.Prelude.{Bool, ℕ, eqb, leb}
use Rattle.vir.specs.declared.arity.Arity.{Arity}
use Rattle.vir.specs.declared.arity.Arity.TheVariants.{Exactly, AtLeast, AtMost}

abbrev pub allows : Arity → ℕ → Bool
allows (Exactly n) count = eqb count n
allows (AtLeast n) count = leb n count
allows (AtMost n) count = leb count n
