use mathlib.Core.Path.{◌≡◌}
use mathlib.Core.Bool.{Bool, true, ◌||◌}
use mathlib.Core.List.{List}
use Prim.Native.Nat.{ℕ}
use lib.Dec.{eqb}
use lib.ListN.{get_or}
use Rattle.records.specs.declared.Records.{Records}
use Rattle.records.specs.Every.{every}
use Rattle.vir.specs.Ids.{none}
use Rattle.image.specs.Viewed.{viewed}
use Rattle.image.specs.Vir.{layer_of}
use Rattle.image.proofs.entering.entered_once.Given as goal

-- the test of a layer
abbrev pub once : Records → List ℕ → ℕ → Bool
once r counts l = eqb (layer_of (viewed r) l).parent none || eqb (get_or counts l 0) 1

abbrev pub invariant-loop-l : goal.invariant-loop-l
invariant-loop-l l = every l.l (once l.records l.counts) ≡ true
