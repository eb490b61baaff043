use Rattle.std.proofs.Common.{◌≡◌, Bool, true, eqb}
use Rattle.std.specs.Prelude.{ℕ}
use Rattle.vir.specs.Ids.{none}
use Rattle.records.specs.declared.Records.{Records}
use Rattle.records.specs.Every.{every}
use Rattle.image.specs.Viewed.{viewed}
use Rattle.image.specs.Vir.{stage_of}
use Rattle.image.proofs.kind.transfers_none.Given as goal

-- the test of a stage
abbrev pub stays : Records → ℕ → Bool
stays r t = eqb (stage_of (viewed r) t).transfer none

abbrev pub invariant-loop-t : goal.invariant-loop-t
invariant-loop-t l = every l.t (stays l.records) ≡ true
