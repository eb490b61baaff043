-- What normalise answers, as numbers, open to computing.
use mathlib.Core.List.{List}
use Prim.Native.Nat.{ℕ}
use Rattle.vir.specs.Header.{header_of}
use Rattle.vir.specs.Interface.{kind_of}
use Rattle.vir.specs.Port.{port_of}
use Rattle.vir.specs.Step.{step_of}
use Rattle.records.specs.Bytes.{u16_at, u32_at}
use Rattle.records.specs.Every.{every}
use Rattle.rules.specs.Faults.{layer_good, interface_good, stage_good}
use Rattle.judging.specs.Judge.{walk, walk_all}
use Rattle.image.specs.Call.{numbers}
use Rattle.image.specs.Check.{check_of}
use Rattle.image.specs.Encode.{layers_bytes, interfaces_bytes, stages_bytes, actions_bytes, encode}
use Rattle.image.specs.Kind.{all, concat, occurrences, present, kind_of_vir}
use Rattle.image.specs.LayerRules.{lies_within, layer_rules}
use Rattle.image.specs.Loops.{each}
use Rattle.image.specs.View.{collect, view_of}
use Rattle.normalizer.specs.Divergence.{layer_divergence}
use Rattle.normalizer.specs.Outcome.{normalise_of}
use Rattle.normalizer.specs.Normalize.{normalize_layer, roots, normalizer_of, normalize}
use Rattle.normalizer.specs.OpenWires.{toggle}

unfoldable pub normalise_numbers : List ℕ → List ℕ
unfolding normalise_of normalize normalizer_of roots normalize_layer layer_divergence toggle each layers_bytes interfaces_bytes stages_bytes actions_bytes encode check_of walk walk_all u16_at u32_at every layer_good interface_good stage_good header_of kind_of port_of step_of collect view_of all concat occurrences present lies_within kind_of_vir layer_rules
normalise_numbers s = numbers (normalise_of s)
