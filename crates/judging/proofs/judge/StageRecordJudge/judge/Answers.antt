use mathlib.Core.Path.{◌∙◌, sym}
use native.Mathlib.Omega.{arith}
use Rattle.judging.proofs.Judging.{Placed, stage-next}
use Rattle.judging.proofs.judge.StageRecordJudge.judge.Goals as goal
use Rattle.judging.proofs.judge.StageRecordJudge.judge.Goals.{Else-not-stage_good}

-- a good stage's lists end within their sections
ends : (c : Else-not-stage_good) → Placed c.args.records.now.bytes.now c.args.records.now.counts c.args.r c.args.self
ends c =
    stage-next c.args.records.now.bytes.now c.args.records.now.counts c.args.r c.args.self (sym c.stage_good.ensures ∙ c.if-not-stage_good.false)

pub overflow_add-result : goal.overflow_add-result
overflow_add-result c =
    omega (arith, c.args.records.now.sized.refs, (ends (goal.at.overflow_add-result c).Else-not-stage_good).refs)

pub overflow_add-result-2 : goal.overflow_add-result-2
overflow_add-result-2 c =
    omega (arith, c.args.records.now.sized.steps, (ends (goal.at.overflow_add-result-2 c).Else-not-stage_good).steps)

pub overflow_add-result-3 : goal.overflow_add-result-3
overflow_add-result-3 c =
    omega (arith, c.args.records.now.sized.ports, (ends (goal.at.overflow_add-result-3 c).Else-not-stage_good).ports)

pub overflow_add-result-4 : goal.overflow_add-result-4
overflow_add-result-4 c =
    omega (arith, c.args.records.now.sized.ports, (ends (goal.at.overflow_add-result-4 c).Else-not-stage_good).ports)
