-- Document 01's layer rules, one definition for each.
use Rattle.std.specs.Prelude.{Bool, true, false, ◌&&◌, ◌||◌, List, [], ◌∷◌, ℕ, zero, suc, eqb, ltb, length}
use Rattle.vir.specs.declared.step.Step.{Step}
use Rattle.vir.specs.declared.step.Step.TheVariants.{Invoke, Transfer, Diverge, Link, Call, Const, Composite, Rewrap, Enum, Union, Ref, List as Listing, String, InlineIvy, BoolNot, BoolAnd}
use Rattle.vir.specs.Ids.{none}
use Rattle.records.specs.Every.{every}
use Rattle.image.specs.Kind.{all, concat, occurrences}
use Rattle.image.specs.Vir.{Stage, Vir, layer_of, interface_of, stage_of}

-- a parent's number is below its child's
abbrev pub parents_below : Vir → Bool
parents_below v = every (length v.layers) (λ l. eqb (layer_of v l).parent none || ltb (layer_of v l).parent l)

-- each stage is listed once in all ..
abbrev pub listed_once : Vir → Bool
listed_once v = every (length v.stages) (λ t. eqb (occurrences t (concat (λ l. l.stages) v.layers)) 1)

-- .. by the layer in its own field
abbrev pub listed_by_own_layer : Vir → Bool
listed_by_own_layer v = every (length v.layers) (λ l. all (λ t. eqb (stage_of v t).layer l) (layer_of v l).stages)

-- every interface's layer exists (none is refused)
abbrev pub interfaces_lie : Vir → Bool
interfaces_lie v = every (length v.interfaces) (λ i. ltb (interface_of v i).layer (length v.layers))

-- the interface that a Transfer step enters, if it is one
abbrev pub transfer_to : Step → List ℕ
transfer_to (Invoke span l i) = []
transfer_to (Transfer i) = i.0 ∷ []
transfer_to (Diverge l o) = []
transfer_to (Link k) = []
transfer_to (Call k) = []
transfer_to (Const k) = []
transfer_to (Composite k) = []
transfer_to (Rewrap k) = []
transfer_to (Enum k) = []
transfer_to (Union k) = []
transfer_to (Ref k) = []
transfer_to (Listing k) = []
transfer_to (String k) = []
transfer_to (InlineIvy k) = []
transfer_to (BoolNot k) = []
transfer_to (BoolAnd k) = []

-- the layer that a Diverge names, if it is one
abbrev pub diverge_to : Step → List ℕ
diverge_to (Invoke span l i) = []
diverge_to (Transfer i) = []
diverge_to (Diverge l o) = l.0 ∷ []
diverge_to (Link k) = []
diverge_to (Call k) = []
diverge_to (Const k) = []
diverge_to (Composite k) = []
diverge_to (Rewrap k) = []
diverge_to (Enum k) = []
diverge_to (Union k) = []
diverge_to (Ref k) = []
diverge_to (Listing k) = []
diverge_to (String k) = []
diverge_to (InlineIvy k) = []
diverge_to (BoolNot k) = []
diverge_to (BoolAnd k) = []

-- the layers that a stage's Transfer steps enter, and those that its Diverges name
abbrev pub entries : Vir → Stage → List ℕ
entries v t = concat (λ a. concat (λ i. (interface_of v i).layer ∷ []) (transfer_to a.step)) t.steps

abbrev pub targets : Stage → List ℕ
targets t = concat (λ a. diverge_to a.step) t.steps

-- a Transfer step, standing in layer L, to an interface whose layer M has a parent needs that parent to be L
abbrev pub entered_from_parent : Vir → Bool
entered_from_parent v =
    every (length v.stages)
    (λ t. all (λ m. eqb (layer_of v m).parent none || eqb (layer_of v m).parent (stage_of v t).layer) (entries v (stage_of v t)))

-- every layer with a parent is entered by exactly one Transfer step
abbrev pub entered_once : Vir → Bool
entered_once v =
    every (length v.layers) (λ l. eqb (layer_of v l).parent none || eqb (occurrences l (concat (entries v) v.stages)) 1)

-- a layer is another or lies in it; parents fall, so as many steps up as there are layers are enough
unfoldable pub lies_within : Vir → ℕ → ℕ → ℕ → Bool
lies_within v zero l outer = false
lies_within v (suc n) l outer =
    eqb l outer || elim (eqb (layer_of v l).parent none) [ true ↦ false | false ↦ lies_within v n (layer_of v l).parent outer ]

-- a Diverge names its own layer or an ancestor
abbrev pub diverges_out : Vir → Bool
diverges_out v =
    every (length v.stages) (λ t. all (lies_within v (length v.layers) (stage_of v t).layer) (targets (stage_of v t)))

unfoldable pub layer_rules : Vir → Bool
layer_rules v =
    parents_below v
    && listed_by_own_layer v
    && listed_once v
    && interfaces_lie v
    && entered_from_parent v
    && entered_once v
    && diverges_out v
