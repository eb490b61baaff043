-- Document 01: flat, layered, or neither.
use Rattle.std.specs.Prelude.{Bool, true, cond, ◌&&◌, List, [], ◌∷◌, ◌++◌, ℕ, ◌+◌, eqb, ltb, length}
use Rattle.vir.specs.declared.interface.InterfaceKind.{InterfaceKind}
use Rattle.vir.specs.declared.interface.InterfaceKind.TheVariants.{Unconditional, Branch, Match, Closure, Inspect}
use Rattle.vir.specs.Ids.{none}
use Rattle.records.specs.Every.{every}
use Rattle.image.specs.Vir.{Interface, Vir, interface_of, stage_of}

unfoldable pub all : {A : Type 0} → (A → Bool) → List A → Bool
all f [] = true
all f (x ∷ xs) = f x && all f xs

unfoldable pub concat : {A B : Type 0} → (A → List B) → List A → List B
concat f [] = []
concat f (x ∷ xs) = f x ++ concat f xs

-- how often a number stands in a list
unfoldable pub occurrences : ℕ → List ℕ → ℕ
occurrences n [] = 0
occurrences n (x ∷ xs) = cond (eqb x n) 1 0 + occurrences n xs

-- those that are not none: only a Closure's fork and drop can be
unfoldable pub present : List ℕ → List ℕ
present [] = []
present (x ∷ xs) = cond (eqb x none) (present xs) (x ∷ present xs)

-- `InterfaceKind::stages`
abbrev pub stages_in : InterfaceKind → List ℕ → List ℕ
stages_in Unconditional l = present l
stages_in Branch l = present l
stages_in Match l = present l
stages_in Closure l = present l
stages_in Inspect l = []

abbrev pub stages_of : Interface → List ℕ
stages_of i = stages_in i.kind i.list

-- each stage is listed ..
abbrev pub listed : Vir → Bool
listed v = every (length v.stages) (λ t. ltb 0 (occurrences t (concat stages_of v.interfaces)))

-- .. by the interface in its own field and by no other
abbrev pub listed_by_own : Vir → Bool
listed_by_own v = every (length v.interfaces) (λ i. all (λ t. eqb (stage_of v t).interface i) (stages_of (interface_of v i)))

-- flat: layers 0, stage layers and transfers none, no Diverge (a stage layer or a Diverge without layers is no good record)
abbrev pub flat : Vir → Bool
flat v = eqb (length v.layers) 0 && every (length v.stages) (λ t. eqb (stage_of v t).transfer none)

-- layered: layers above 0
abbrev pub layered : Vir → Bool
layered v = ltb 0 (length v.layers)

-- 1 flat, 2 layered, 0 neither
unfoldable pub kind_of_vir : Vir → ℕ
kind_of_vir v = cond (listed_by_own v && listed v) (cond (layered v) 2 (cond (flat v) 1 0)) 0
