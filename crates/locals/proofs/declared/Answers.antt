use Rattle.std.proofs.Common.{refl, rules, tests, take, arith}
use Rattle.std.proofs.lemmas.Iterator.{YieldsList-from_range}
use Rattle.std.proofs.lemmas.Iterator.Search.{any_from_yields_List}
use Rattle.image.specs.View.{view}
use Rattle.image.specs.Vir.{stage_of}
use Rattle.reading.proofs.Reading.{image_of}
use Rattle.locals.specs.Declared.{declared_in}
use Rattle.locals.proofs.Searching.{declared_of}
use Rattle.locals.proofs.declared.Goals as goal

pub returns : goal.returns
returns c =
    let records = c.args.image.now.records in
    let reached = take records.counts.interfaces c.args.incoming.now in
    declared_of (image_of c.args.image.now) reached c.args.l.0
    (any_from_yields_List (λ t. declared_in reached c.args.l.0 (stage_of (view records.bytes.now) t)) _ _ c.any.result c.any.ensures.ran
    (YieldsList-from_range 0 _ records.counts.stages refl (omega arith))
    (λ x b q k. search (rules, tests)))
