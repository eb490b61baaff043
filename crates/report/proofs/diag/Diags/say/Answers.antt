use Rattle.report.proofs.Saying.{saying_past, saying_put}
use Rattle.report.proofs.diag.Diags.say.Goals as goal
use Rattle.report.proofs.diag.Diags.say.Goals.{then-self-lt-MOST, else-self-lt-MOST}

pub returns-clause-said : goal.returns-clause-said
returns-clause-said c =
    elim c.if-self-lt-MOST.branch [
      | then-self-lt-MOST w ↦ rw w.out-is (saying_put w.if-self-lt-MOST.true w.put.ensures)
      | else-self-lt-MOST w ↦ rw w.out-is (saying_past w.if-self-lt-MOST.false)
    ]
