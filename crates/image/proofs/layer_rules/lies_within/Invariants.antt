use Rattle.image.proofs.Climbing.{Climbed}
use Rattle.image.proofs.layer_rules.lies_within.Given as goal

abbrev pub invariant-loop-outer : goal.invariant-loop-outer
invariant-loop-outer l = Climbed l.records.bytes.now l.records.counts l.outer.0 l.fn.l.0 l.at.0

abbrev pub decreases-loop-outer : goal.decreases-loop-outer
decreases-loop-outer l = l.at.0
