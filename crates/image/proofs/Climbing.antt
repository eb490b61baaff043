-- The climb by parents: any fuel above a layer's number gives the same, and a step up leaves the answer.
use mathlib.Core.Path.{◌≡◌, ◌∙◌, refl, sym, ap, ap₂}
use mathlib.Core.Bool.{Bool, true, false, not, ◌||◌}
use mathlib.Core.List.{List}
use Prim.Native.Nat.{ℕ, zero, suc, ◌<◌}
use native.Mathlib.Nat.{not-suc-le-zero}
use native.Mathlib.Omega.{arith}
use lib.Dec.{eqb, ltb}
use lib.ListN.{length}
use borrow.Author.Tests.{eq-eqb, ne_eqb, eqb-true, eqb-false, ltb-true, not-true, not-false}
use Rattle.vir.specs.Ids.{none}
use Rattle.records.specs.declared.layout.Counts.{Counts}
use Rattle.image.specs.Entering.{lies_in}
use Rattle.image.specs.LayerRules.{parents_below, lies_within}
use Rattle.image.specs.View.{view_of}
use Rattle.image.specs.Vir.{Vir, layer_of}
use Rattle.records.proofs.Every.{every-at}
use Rattle.image.proofs.Fields.{parent_read}
use Rattle.image.proofs.Viewing.{length-layers}

abbrev pub parent_of : Vir → ℕ → ℕ
parent_of v l = (layer_of v l).parent

-- one step of the climb: the layer is the outer one, or is a root, or its parent answers
abbrev answer : Bool → Bool → Bool → Bool
answer found root up = found || elim root [ true ↦ false | false ↦ up ]

module _ (v : Vir) (outer : ℕ) where
  within_step : {found root : Bool} (n l : ℕ) → eqb l outer ≡ found → eqb (parent_of v l) none ≡ root
      → lies_within v (suc n) l outer ≡ answer found root (lies_within v n (parent_of v l) outer)
  unfolding lies_within
  within_step n l p q = ap₂ (λ (found root : Bool). answer found root (lies_within v n (parent_of v l) outer)) p q

  within_found : (n l : ℕ) → l < n → l ≡ outer → lies_within v n l outer ≡ true
  within_found zero l h e = absurd (not-suc-le-zero h)
  within_found (suc n) l h e = within_step n l (eq-eqb l outer e) refl

  within_root : (n l : ℕ) → (l ≡ outer → ⊥) → parent_of v l ≡ none → lies_within v n l outer ≡ false
  unfolding lies_within
  within_root zero l h e = refl
  within_root (suc n) l h e = within_step n l (ne_eqb l outer h) (eq-eqb (parent_of v l) none e)

module _ (v : Vir) (below : parents_below v ≡ true) where
  pub parent-below : (l : ℕ) → l < length v.layers → (parent_of v l ≡ none → ⊥) → parent_of v l < l
  parent-below l h e =
      ltb-true (parent_of v l) l
      (sym (ap (λ (b : Bool). b || ltb (parent_of v l) l) (ne_eqb (parent_of v l) none e))
      ∙ every-at (λ (k : ℕ). eqb (parent_of v k) none || ltb (parent_of v k) k) (length v.layers) l below h)

  -- fuel above a layer's number is enough
  within_more : (outer n l : ℕ) → l < n → l < length v.layers → lies_within v n l outer ≡ lies_within v (suc n) l outer
  unfolding lies_within
  within_more outer zero l h k = absurd (not-suc-le-zero h)
  within_more outer (suc n) l h k =
      go (eqb (parent_of v l) none) refl (λ (e : parent_of v l < l). within_more outer n (parent_of v l) (omega arith) (omega arith))
    where
      go : (root : Bool) → eqb (parent_of v l) none ≡ root
          → (parent_of v l < l → lies_within v n (parent_of v l) outer ≡ lies_within v (suc n) (parent_of v l) outer)
          → answer (eqb l outer) root (lies_within v n (parent_of v l) outer) ≡ answer (eqb l outer) root (lies_within v (suc n) (parent_of v l) outer)
      go true e r = refl
      go false e r = ap (λ (up : Bool). eqb l outer || up) (r (parent-below l k (eqb-false (parent_of v l) none e)))

  within_on : (outer n l : ℕ) → l < n → l < length v.layers → (l ≡ outer → ⊥) → (parent_of v l ≡ none → ⊥)
      → lies_within v n l outer ≡ lies_within v n (parent_of v l) outer
  within_on outer zero l h k a e = absurd (not-suc-le-zero h)
  within_on outer (suc n) l h k a e =
      let less : parent_of v l < l = parent-below l k e in
      within_step v outer n l (ne_eqb l outer a) (ne_eqb (parent_of v l) none e)
      ∙ within_more outer n (parent_of v l) (omega arith) (omega arith)

-- a layer is itself, with no climb
pub lies_in_itself : (s : List ℕ) (c : Counts) (l : ℕ) → l < c.layers → lies_in (view_of s c) l l ≡ true
lies_in_itself s c l h = within_found (view_of s c) l (length (view_of s c).layers) l (omega (arith, length-layers s c)) refl

-- a climb has come from l to at, and the answer is at's
pub record Climbed (s : List ℕ) (c : Counts) (outer l at : ℕ) : Type 0 where
  pub inside : at < c.layers
  pub ahead : lies_within (view_of s c) (length (view_of s c).layers) at outer ≡ lies_within (view_of s c) (length (view_of s c).layers) l outer

module _ {s : List ℕ} {c : Counts} {outer l at : ℕ} (w : Climbed s c outer l at) where
  abbrev view : Vir
  view = view_of s c

  inside-view : at < length view.layers
  inside-view = omega (arith, w.inside, length-layers s c)

  pub climbed_found : not (eqb at outer) ≡ false → true ≡ lies_within view (length view.layers) l outer
  climbed_found e = sym (within_found view outer (length view.layers) at inside-view (eqb-true at outer (not-false _ e))) ∙ w.ahead

  module _ {parent : ℕ} (found : parent_of view at ≡ parent) (on : not (eqb at outer) ≡ true) where
    apart : at ≡ outer → ⊥
    apart = eqb-false at outer (not-true _ on)

    pub climbed_root : eqb parent none ≡ true → false ≡ lies_within view (length view.layers) l outer
    climbed_root e = sym (within_root view outer (length view.layers) at apart (found ∙ eqb-true parent none e)) ∙ w.ahead

    module _ (below : parents_below view ≡ true) (some : eqb parent none ≡ false) where
      up : parent_of view at ≡ none → ⊥
      up e = eqb-false parent none some (sym found ∙ e)

      pub climbed_less : parent < at
      climbed_less = omega (arith, found, parent-below view below at inside-view up)

      pub climbed_on : Climbed s c outer l parent
      climbed_on =
          record {
            inside = omega (arith, climbed_less, w.inside);
            ahead =
                ap (λ (k : ℕ). lies_within view (length view.layers) k outer) (sym found)
                ∙ sym (within_on view below outer (length view.layers) at inside-view inside-view apart up)
                ∙ w.ahead;
          }

-- what a climb over records needs
pub ruleset climbing = (parent_read, climbed_found, climbed_root, climbed_less, climbed_on)
