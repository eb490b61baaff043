use Rattle.std.proofs.Common.{refl, rules, tests, eqb, arith}
use Rattle.std.proofs.lemmas.Iterator.{YieldsList-from_range}
use Rattle.std.proofs.lemmas.Iterator.Search.{any_from_yields_List}
use Rattle.reading.specs.Read.{ref_nth}
use Rattle.locals.proofs.Searching.{declared_as}
use Rattle.locals.proofs.declares.Goals as goal

pub returns : goal.returns
returns c =
    let s = c.args.image.now.records.bytes.now in
    let list = c.stage.result.declarations in
    declared_as c.args.l.0 c.stage.ensures
    (any_from_yields_List (λ k. eqb (ref_nth s c.args.image.now.records.counts k) c.args.l.0) _ _ c.any.result c.any.ensures.ran
    (YieldsList-from_range list.first _ list.count refl (omega arith))
    (λ x b q k. search (rules, tests)))
