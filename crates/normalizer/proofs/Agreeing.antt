-- The worked examples on normalising hold, by computing.
use mathlib.Core.Path.{refl}
use Rattle.effect.specs.Example.{Hold}
use Rattle.normalizer.specs.Worked.{worked, arrival, ports_after, two_layers_out}
use Rattle.normalizer.proofs.Computed.{normalise_numbers}

pub hold : Hold worked
unfolding worked normalise_numbers arrival ports_after two_layers_out
hold = (refl, (refl, (refl, tt)))
