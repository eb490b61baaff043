use mathlib.Core.Path.{◌≡◌, ◌∙◌, sym}
use mathlib.Core.Bool.{true}
use Rattle.std.proofs.lemmas.Bool.{false≢true}
use Rattle.reading.proofs.Listed.{stages_some}
use Rattle.reading.proofs.stages.Goals as goal

pub returns : goal.returns
returns c =
    stages_some c.interface-record.ensures
    (λ e. let found : c.eq-inspect.result ≡ true = rw (c.try_from.ensures, e) at c.eq-inspect.ensures in false≢true (sym c.if-inspect.false ∙ found))
