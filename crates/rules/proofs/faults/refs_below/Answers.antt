use mathlib.Core.Path.{◌∙◌, refl}
use native.Mathlib.Omega.{arith}
use borrow.Author.Tests.{tests}
use Rattle.std.proofs.Common.{rules}
use Rattle.std.proofs.lemmas.Iterator.{YieldsList-from_range}
use Rattle.std.proofs.lemmas.Iterator.Search.{all_from_yields_List}
use Rattle.records.proofs.Every.{every_range}
use Rattle.rules.proofs.faults.refs_below.Goals as goal

pub returns : goal.returns
returns c =
    let n = c.args.count in
    all_from_yields_List _ _ _ _ c.all.ensures.ran (YieldsList-from_range 0 n n refl (omega arith)) (λ x b q k. search (rules, tests))
    ∙ every_range _ n
