use borrow.Author.Tests.{eq-eqb, ne_eqb}
use Rattle.vir.proofs.step.onward.Goals as goal

pub returns-then-b-eq-NONE : goal.returns-then-b-eq-NONE
returns-then-b-eq-NONE c = simp (eq-eqb _ _ c.if-b-eq-NONE.true)

pub returns-else-b-eq-NONE : goal.returns-else-b-eq-NONE
returns-else-b-eq-NONE c = simp (ne_eqb _ _ c.if-b-eq-NONE.false)
