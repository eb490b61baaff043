use Rattle.image.specs.Listing.{all_listed}
use Rattle.image.specs.Tally.{tally}
use Rattle.image.specs.Viewed.{viewed}
use Rattle.image.proofs.Listing.{OwningBy}
use Rattle.image.proofs.listers.own_all.Given as goal

abbrev pub invariant-loop-k : goal.invariant-loop-k
invariant-loop-k g l =
    OwningBy l.image.records.bytes.now l.image.records.counts g.L.Lists.lister (tally (all_listed g.L.Lists.lister (viewed l.image.records)) l.initial.counts) l.k l.ok l.counts
