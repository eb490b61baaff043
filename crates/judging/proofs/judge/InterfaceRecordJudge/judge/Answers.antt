use mathlib.Core.Path.{◌∙◌, sym}
use native.Mathlib.Omega.{arith}
use Rattle.judging.proofs.Judging.{interface-next}
use Rattle.judging.proofs.judge.InterfaceRecordJudge.judge.Goals as goal

pub overflow_add-result : goal.overflow_add-result
overflow_add-result c =
    omega (
      arith,
      c.args.records.now.sized.refs,
      interface-next c.args.records.now.bytes.now c.args.records.now.counts c.args.r c.args.self (sym c.interface_good.ensures ∙ c.if-not-interface_good.false),
    )
