use mathlib.Core.Path.{◌∙◌, sym}
use native.Mathlib.Omega.{arith}
use Rattle.judging.proofs.Judging.{step-next}
use Rattle.judging.proofs.judge.StepRecordJudge.judge.Goals as goal

pub overflow_add-result : goal.overflow_add-result
overflow_add-result c =
    omega (
      arith,
      c.args.records.now.sized.ports,
      step-next c.args.records.now.bytes.now c.args.records.now.counts c.args.r c.args.self (sym c.step_good.ensures ∙ c.if-not-step_good.false),
    )
