use mathlib.Core.Path.{◌∙◌, ap, ap₂}
use mathlib.Core.Bool.{◌&&◌}
use Prim.Native.Nat.{ℕ}
use lib.Dec.{ltb}
use Rattle.rules.specs.Faults.{or_none}
use Rattle.rules.proofs.faults.closure_named.Goals as goal

pub returns : goal.returns
returns c =
    let n = c.args.n in
    ap₂ ◌&&◌
    (ap₂ ◌&&◌ (ap (λ (x : ℕ). ltb x n) c.u16_at.ensures) (c.or_none.ensures ∙ ap (or_none n) c.u16_at-2.ensures))
    (c.or_none-2.ensures ∙ ap (or_none n) c.u16_at-3.ensures)
