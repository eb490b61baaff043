use mathlib.Core.Path.{◌∙◌, sym}
use native.Mathlib.Omega.{arith}
use Rattle.judging.proofs.Judging.{layer-next}
use Rattle.judging.proofs.judge.LayerRecordJudge.judge.Goals as goal

pub overflow_add-result : goal.overflow_add-result
overflow_add-result c =
    omega (
      arith,
      c.args.records.now.sized.refs,
      layer-next c.args.records.now.bytes.now c.args.records.now.counts c.args.r c.args.self (sym c.layer_good.ensures ∙ c.if-not-layer_good.false),
    )
