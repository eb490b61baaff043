use Rattle.std.proofs.Common.{refl}
use mathlib.Core.Path.{sym}
use Rattle.image.specs.Tally.{counted_at}
use Rattle.records.proofs.Every.{every-zero, every-next}
use Rattle.image.proofs.tally.counted.Goals as goal

pub loop-i-init : goal.loop-i-init
loop-i-init c = sym (every-zero _)

pub loop-i-preserved : goal.loop-i-preserved
loop-i-preserved c = every-next (counted_at c.args.counts.now c.args.most) c.loop-i.i c.loop-i.invariant refl
