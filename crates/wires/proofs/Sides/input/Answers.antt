use mathlib.Core.Path.{◌∙◌, sym}
use mathlib.Core.Bool.{◌&&◌, ◌||◌}
use Rattle.wires.proofs.Sides.input.Goals as goal

-- flag by flag
pub returns-then-output : goal.returns-then-output
returns-then-output c =
    λ i.
    (sym c.if-write.true ∙ c.write.ensures) i
    && ((sym c.if-read.false ∙ c.read.ensures) i || (sym c.if-output.true ∙ c.output.ensures) i && c.pass.ensures i)
