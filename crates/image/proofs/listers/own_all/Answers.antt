use Rattle.std.proofs.Common.{◌≡◌, ◌∙◌, ap}
use native.Mathlib.Omega.{arith}
use Rattle.records.specs.Layout.{count_of}
use Rattle.image.specs.Listing.{section_of}
use Rattle.image.proofs.Listing.{owning_by_start, owning_by_on, owning_by_end}
use Rattle.image.proofs.listers.own_all.Given.{Over}
use Rattle.image.proofs.listers.own_all.Goals as goal
use Rattle.image.proofs.listers.own_all.Goals.{After-count-k-end}

-- where the loop ends
end : (g : Over) (c : After-count-k-end g) → c.count-k-end.result ≡ count_of c.args.image.now.records.counts (section_of g.L.Lists.lister)
end g c = c.count-k-end.ensures ∙ ap (count_of c.args.image.now.records.counts) (c.SECTION.ensures ∙ g.met.L.Lists.section)

pub loop-k-init : goal.loop-k-init
loop-k-init g c = owning_by_start _ _ g.L.Lists.lister _

pub loop-k-preserved : goal.loop-k-preserved
loop-k-preserved g c =
    owning_by_on _ _ g.L.Lists.lister _ _ _ _ c.loop-k.invariant
    (omega (arith, c.loop-k-test.true, end g (goal.at.loop-k-preserved g c).After-count-k-end)) c.own-ok.ensures

pub returns : goal.returns
returns g c =
    owning_by_end _ _ g.L.Lists.lister _ _ _ _ c.loop-k.invariant
    (omega (arith, c.loop-k-test.false, end g (goal.at.returns g c).After-count-k-end))
