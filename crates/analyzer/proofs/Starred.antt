-- The starred example on analysing holds, by computing.
use mathlib.Core.Path.{refl}
use Rattle.effect.specs.Example.{Hold}
use Rattle.image.specs.Samples.{example}
use Rattle.analyzer.specs.Starred.{starred}
use Rattle.analyzer.proofs.Computed.{analyse_numbers}

pub hold : Hold starred
unfolding starred analyse_numbers example
hold = (refl, (refl, tt))
