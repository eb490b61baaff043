use native.Mathlib.Omega.{arith}
use Rattle.batch.proofs.read_full.Goals as goal

pub loop-done-init : goal.loop-done-init
loop-done-init g c = omega arith
