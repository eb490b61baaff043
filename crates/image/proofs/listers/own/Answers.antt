use Rattle.std.proofs.Common.{◌≡◌, ◌∙◌, sym, ap}
use Rattle.records.specs.Layout.{place_of}
use Rattle.image.specs.Listing.{list_at}
use Rattle.image.proofs.Listing.{none_adds, list_named, list_adds}
use Rattle.image.proofs.listers.own.Given.{Over}
use Rattle.image.proofs.listers.own.Goals as goal
use Rattle.image.proofs.listers.own.Goals.{After-stages}

-- what the record lists, as the definition has it
listed : (g : Over) (c : After-stages g)
    → c.stages.result ≡ list_at g.L.Lists.lister c.args.image.now.records.bytes.now (place_of c.args.image.now.records.counts g.L.Record.SECTION c.args.k)
listed g c = c.stages.ensures ∙ ap g.L.Lists.list c.nth-record.ensures ∙ g.met.L.Lists.at_place _ _

pub returns-in_default : goal.returns-in_default
returns-in_default g c =
    let image = c.args.image.now in
    none_adds image.records.bytes.now image.records.counts image.accepted g.L.Lists.lister g.met.L.Lists.section c.args.k c.requires
    (sym c.in_default.is ∙ listed g (goal.at.returns-in_default g c).After-stages) _

pub tally_listed-requires-clause-named : goal.tally_listed-requires-clause-named
tally_listed-requires-clause-named g c =
    let image = c.args.image.now in
    list_named image.records.bytes.now image.records.counts image.accepted g.L.Lists.lister g.met.L.Lists.section c.args.k c.requires
    (sym c.in-Some.is ∙ listed g (goal.at.tally_listed-requires-clause-named g c).After-stages)

pub returns : goal.returns
returns g c =
    let image = c.args.image.now in
    list_adds image.records.bytes.now image.records.counts image.accepted g.L.Lists.lister g.met.L.Lists.section c.args.k c.requires
    (sym c.in-Some.is ∙ listed g (goal.at.returns g c).After-stages) c.owner.ensures _ c.tally_listed.ensures.0 c.tally_listed.ensures.1
