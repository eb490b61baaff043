use mathlib.Core.Path.{◌≡◌}
use mathlib.Core.Bool.{Bool, true, ◌||◌}
use Prim.Native.Nat.{ℕ}
use lib.Dec.{eqb, ltb}
use Rattle.records.specs.declared.Records.{Records}
use Rattle.records.specs.Every.{every}
use Rattle.vir.specs.Ids.{none}
use Rattle.image.specs.Viewed.{viewed}
use Rattle.image.specs.Vir.{layer_of}
use Rattle.image.proofs.layer_rules.parents_below.Given as goal

-- the test of a layer
abbrev pub falls : Records → ℕ → Bool
falls r l = eqb (layer_of (viewed r) l).parent none || ltb (layer_of (viewed r) l).parent l

abbrev pub invariant-loop-l : goal.invariant-loop-l
invariant-loop-l l = every l.l (falls l.records) ≡ true
