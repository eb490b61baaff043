use Rattle.std.proofs.Common.{◌≡◌}
use Rattle.records.specs.Every.{every}
use Rattle.image.specs.Tally.{counted_at}
use Rattle.image.proofs.tally.counted.Given as goal

abbrev pub invariant-loop-i : goal.invariant-loop-i
invariant-loop-i l = l.ok ≡ every l.i (counted_at l.counts l.most)
