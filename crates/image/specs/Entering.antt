-- What single steps enter and name: the layer rules of document 01, a step at a time.
use Rattle.std.specs.Prelude.{Bool, ◌||◌, List, [], ◌∷◌, ℕ, ◌+◌, ◌*◌, eqb, length}
use Rattle.vir.specs.Ids.{none}
use Rattle.records.specs.declared.layout.Counts.{Counts}
use Rattle.records.specs.declared.record.Run.{Run}
use Rattle.image.specs.Kind.{concat}
use Rattle.records.specs.Layout.{steps_at, step_size}
use Rattle.image.specs.LayerRules.{transfer_to, diverge_to, lies_within}
use Rattle.records.specs.Records.{step_at}
use Rattle.image.specs.View.{collect, action_of_record}
use Rattle.image.specs.Vir.{Action, Vir, layer_of, interface_of}

-- the step of a number, and the steps of a list
abbrev pub action_at : List ℕ → Counts → ℕ → Action
action_at s c k = action_of_record s c (step_at s (steps_at c + step_size * k))

abbrev pub actions_of : List ℕ → Counts → Run → List Action
actions_of s c run = collect (action_at s c) run.first run.count

-- the layer that a step enters, if it is a Transfer, and the one that it names, if it is a Diverge
abbrev pub enters_of : Vir → Action → List ℕ
enters_of v a = concat (λ i. (interface_of v i).layer ∷ []) (transfer_to a.step)

abbrev pub diverges_of : Action → List ℕ
diverges_of a = diverge_to a.step

-- a layer with a parent is entered from that parent
abbrev pub enterable : Vir → ℕ → ℕ → Bool
enterable v l m = eqb (layer_of v m).parent none || eqb (layer_of v m).parent l

-- a layer is another or lies in it
abbrev pub lies_in : Vir → ℕ → ℕ → Bool
lies_in v = lies_within v (length v.layers)
