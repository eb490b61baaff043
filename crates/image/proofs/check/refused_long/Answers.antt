use mathlib.Core.Path.{◌∙◌, sym, ap}
use Rattle.records.specs.Layout.{within}
use Rattle.image.proofs.Heads.{long_unmarked, long_count, long-length}
use Rattle.image.proofs.check.refused_long.Goals as goal

pub returns-then-not-marked : goal.returns-then-not-marked
returns-then-not-marked c = λ s e l. long_unmarked s c.args.head.now e l (sym c.marked.ensures ∙ c.if-not-marked.true)

pub returns-then-not-within : goal.returns-then-not-within
returns-then-not-within c =
    λ s e l. long_count s c.args.head.now e l (sym c.marked.ensures ∙ c.if-not-marked.false)
    (sym (c.within.ensures ∙ ap within c.read.ensures) ∙ c.if-not-within.true)

pub returns : goal.returns
returns c =
    λ s e l. long-length s c.args.head.now e l (sym c.marked.ensures ∙ c.if-not-marked.false)
    (sym (c.within.ensures ∙ ap within c.read.ensures) ∙ c.if-not-within.false)
