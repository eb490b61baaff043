-- The definitions compute: check's answer on small images, one for each code and kind, and what is read is written out again.
use mathlib.Core.Path.{refl}
use mathlib.Core.List.{List, [], ◌∷◌}
use Prim.Native.Nat.{ℕ}
use lib.ListN.{set, take}
use Rattle.effect.specs.Example.{Example, Hold}
use Rattle.vir.specs.Header.{header_of}
use Rattle.vir.specs.Interface.{kind_of}
use Rattle.vir.specs.Port.{port_of}
use Rattle.vir.specs.Step.{step_of}
use Rattle.records.specs.Bytes.{u16_at, u32_at}
use Rattle.records.specs.Every.{every}
use Rattle.image.specs.Check.{check_of}
use Rattle.image.specs.Encode.{layers_bytes, interfaces_bytes, stages_bytes, actions_bytes, encode}
use Rattle.rules.specs.Faults.{layer_good, interface_good, stage_good}
use Rattle.judging.specs.Judge.{walk, walk_all}
use Rattle.image.specs.Kind.{all, concat, occurrences, present, kind_of_vir}
use Rattle.image.specs.LayerRules.{lies_within, layer_rules}
use Rattle.image.specs.Samples.{example, loop}
use Rattle.image.specs.View.{collect, view_of, view}

-- code, place and kind
answer : List ℕ → List ℕ
unfolding check_of walk walk_all u16_at u32_at every layer_good interface_good stage_good header_of kind_of port_of step_of collect view_of all concat occurrences present lies_within kind_of_vir layer_rules
answer s = (check_of s).code ∷ (check_of s).place ∷ (check_of s).kind ∷ []

-- read and written out again
again : List ℕ → List ℕ
unfolding u16_at u32_at header_of kind_of port_of step_of collect view_of concat layers_bytes interfaces_bytes stages_bytes actions_bytes encode
again s = encode (view s)

-- s is answered so
abbrev gets : List ℕ → ℕ → ℕ → ℕ → Example
gets s code place kind = record { given = answer s; said = code ∷ place ∷ kind ∷ [] }

pub computed : List Example
computed =
    gets example 0 0 1 ∷
    gets loop 0 0 2 ∷
    gets (take 20 example) 2 0 0 ∷
    gets (set example 0 87) 3 0 0 ∷
    gets (set example 7 0) 4 0 0 ∷
    gets (take 103 example) 5 0 0 ∷
    gets (set example 23 9) 6 21 0 ∷
    gets (set example 49 0) 6 104 0 ∷
    gets (set (set example 57 0) 58 0) 7 0 0 ∷
    gets (set loop 27 1) 8 0 0 ∷
    record { given = again example; said = example } ∷
    record { given = again loop; said = loop } ∷
    []

pub hold : Hold computed
unfolding computed answer again example loop
hold = (refl, (refl, (refl, (refl, (refl, (refl, (refl, (refl, (refl, (refl, (refl, (refl, tt))))))))))))
