-- The starred example on normalising holds, by computing.
use mathlib.Core.Path.{refl}
use Rattle.effect.specs.Example.{Hold}
use Rattle.image.specs.Samples.{split}
use Rattle.normalizer.specs.Starred.{starred}
use Rattle.normalizer.proofs.Computed.{normalise_numbers}

pub hold : Hold starred
unfolding starred normalise_numbers split
hold = (refl, tt)
