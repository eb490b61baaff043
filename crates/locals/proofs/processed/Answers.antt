use mathlib.Core.Path.{sym, ap, ap₂}
use mathlib.Core.Bool.{not, ◌&&◌}
use Rattle.vir.specs.Flags.{self_inverse}
use Rattle.image.specs.Vir.{Local}
use Rattle.locals.proofs.processed.Goals as goal

pub returns : goal.returns
returns c =
    ap₂ ◌&&◌ c.declared.ensures (ap (λ (info : Local). not (self_inverse info.flags)) (sym (c.local-info.ensures.value _)))
