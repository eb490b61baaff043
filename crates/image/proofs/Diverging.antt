-- The layers that steps name, in the view and in the bytes; and a stage that a layer lists has an existing layer.
use mathlib.Core.Path.{◌≡◌, ◌∙◌, refl, sym, ap}
use mathlib.Core.Bool.{Bool, true, false, cond}
use mathlib.Core.List.{List, [], ◌∷◌, ◌++◌}
use Prim.Native.Nat.{ℕ, suc, ◌+◌, ◌<◌, ◌≤◌}
use native.Mathlib.Omega.{arith}
use lib.Dec.{eqb, ltb}
use lib.ListN.{length, get_or}
use borrow.Author.Tests.{eqb-true, ltb-true, ltb-false}
use Rattle.vir.specs.Ids.{none}
use Rattle.records.specs.declared.layout.Counts.{Counts}
use Rattle.image.specs.Kind.{all, concat, occurrences}
use Rattle.image.specs.LayerRules.{listed_once, listed_by_own_layer}
use Rattle.image.specs.View.{view_of}
use Rattle.image.specs.Vir.{Layer, Vir, layer_of, stage_of}
use Rattle.records.proofs.Every.{every-at}
use Rattle.records.proofs.Guards.{left_true, right_true}
use Rattle.image.proofs.Fields.{stage_read}
use Rattle.image.proofs.Viewing.{length-layers, length-stages}

pub occurrences-append : (t : ℕ) (a b : List ℕ) → occurrences t (a ++ b) ≡ occurrences t a + occurrences t b
unfolding occurrences
occurrences-append t [] b = omega arith
occurrences-append t (x ∷ a) b = omega (arith, occurrences-append t a b)

-- what stands in a list has what all of it have
all_has : (f : ℕ → Bool) (t : ℕ) (xs : List ℕ) → 0 < occurrences t xs → all f xs ≡ true → f t ≡ true
unfolding all occurrences
all_has f t [] h a = absurd (omega arith)
all_has f t (x ∷ xs) h a = go (eqb x t) refl h (λ (k : 0 < occurrences t xs). all_has f t xs k (right_true (f x) (all f xs) a))
  where
    go : (b : Bool) → eqb x t ≡ b → 0 < cond b 1 0 + occurrences t xs → (0 < occurrences t xs → f t ≡ true) → f t ≡ true
    go true e k r = ap f (sym (eqb-true x t e)) ∙ left_true (f x) (all f xs) a
    go false e k r = r (omega arith)

-- a stage that stands in the list of one of the layers from i on, each of which lists its own, has a layer of them
owner_below : (layer : ℕ → ℕ) (t i : ℕ) (ls : List Layer) → 0 < occurrences t (concat (λ l. l.stages) ls)
    → ((j : ℕ) → j < length ls → all (λ t. eqb (layer t) (i + j)) (get_or ls j (record { parent = none; stages = [] })).stages ≡ true)
    → layer t < i + length ls
unfolding concat occurrences
owner_below layer t i [] h own = absurd (omega arith)
owner_below layer t i (l ∷ ls) h own =
    go (ltb 0 (occurrences t l.stages)) refl
    (λ (k : 0 < occurrences t (concat (λ l. l.stages) ls)).
    owner_below layer t (suc i) ls k
    (λ j m.
    ap (λ (n : ℕ). all (λ t. eqb (layer t) n) (get_or ls j (record { parent = none; stages = [] })).stages) (omega arith)
    ∙ own (suc j) (omega arith)))
  where
    go : (b : Bool) → ltb 0 (occurrences t l.stages) ≡ b → (0 < occurrences t (concat (λ l. l.stages) ls) → layer t < suc i + length ls)
        → layer t < i + length (l ∷ ls)
    go true e r =
        let here : layer t ≡ i + 0 =
        eqb-true (layer t) (i + 0) (all_has (λ t. eqb (layer t) (i + 0)) t l.stages (ltb-true 0 _ e) (own 0 (omega arith))) in
        omega arith
    go false e r =
        let none_here : occurrences t l.stages ≤ 0 = ltb-false 0 _ e in
        let below : layer t < suc i + length ls = r (omega (arith, occurrences-append t l.stages (concat (λ l. l.stages) ls))) in
        omega arith

module _ (s : List ℕ) (c : Counts) where
  -- every stage's layer exists
  pub layer_below : listed_by_own_layer (view_of s c) ≡ true → listed_once (view_of s c) ≡ true → (t : ℕ) → t < c.stages
      → (stage_of (view_of s c) t).layer < c.layers
  layer_below own once t h =
      let v : Vir = view_of s c in
      let listed : occurrences t (concat (λ l. l.stages) v.layers) ≡ 1 =
      eqb-true _ 1 (every-at (λ t. eqb (occurrences t (concat (λ l. l.stages) v.layers)) 1) _ t once (omega (arith, length-stages s c))) in
      let below : (stage_of v t).layer < 0 + length v.layers =
      owner_below (λ t. (stage_of v t).layer) t 0 v.layers (omega arith)
      (λ j k. ap (λ (n : ℕ). all (λ t. eqb (stage_of v t).layer n) (layer_of v j).stages) (omega arith)
      ∙ every-at (λ l. all (λ t. eqb (stage_of v t).layer l) (layer_of v l).stages) _ j own k) in
      omega (arith, length-layers s c)

-- a stage's record, and its layer
pub ruleset standing = (stage_read, layer_below)
