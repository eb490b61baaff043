use mathlib.Core.Path.{◌≡◌}
use mathlib.Core.Bool.{Bool, true}
use Prim.Native.Nat.{ℕ}
use lib.Dec.{ltb}
use lib.ListN.{length}
use Rattle.records.specs.declared.Records.{Records}
use Rattle.records.specs.Every.{every}
use Rattle.image.specs.Viewed.{viewed}
use Rattle.image.specs.Vir.{interface_of}
use Rattle.image.proofs.layer_rules.interfaces_lie.Given as goal

-- the test of an interface
abbrev pub lies : Records → ℕ → Bool
lies r i = ltb (interface_of (viewed r) i).layer (length (viewed r).layers)

abbrev pub invariant-loop-i : goal.invariant-loop-i
invariant-loop-i l = every l.i (lies l.records) ≡ true
