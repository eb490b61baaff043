use mathlib.Core.Path.{◌∙◌, sym}
use Rattle.image.proofs.Accepting.{accepted}
use Rattle.image.proofs.check.accepted.Goals as goal

pub invariant_of-result : goal.invariant_of-result
invariant_of-result c =
    record { accepted = accepted c.args.records.bytes.now c.args.records.counts _ c.args.records.sized (sym c.walk.ensures ∙ c.in_ok-ends.was) }
