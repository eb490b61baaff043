-- What the rules say of a value that normalise takes, one by one.
use mathlib.Core.Path.{◌≡◌, ◌∙◌, refl, ap, subst}
use mathlib.Core.Bool.{Bool, true, false, ◌&&◌, ◌||◌, true≢false}
use mathlib.Core.List.Memᴰ
use mathlib.Core.List.{[], ◌∷◌, Memᴰ}
use Prim.Native.Nat.{ℕ, ◌<◌, ◌≤◌}
use native.Mathlib.Omega.{arith}
use lib.Dec.{eqb, ltb}
use lib.ListN.{length, get_or-eq_default}
use borrow.Author.Tests.{eqb-true, ne_eqb, ltb-true, ltb-false}
use Rattle.vir.specs.Ids.{none}
use Rattle.rules.specs.Faults.{or_none}
use Rattle.records.proofs.Every.{every-at}
use Rattle.records.proofs.Guards.{left_true, right_true}
use Rattle.image.specs.Encode.{counts_of_vir}
use Rattle.image.specs.Kind.{all, concat, occurrences}
use Rattle.image.specs.LayerRules.{parents_below, listed_by_own_layer, listed_once, interfaces_lie, entered_from_parent, entered_once, entries, transfer_to, layer_rules}
use Rattle.image.specs.Vir.{Action, Layer, Vir, layer_of, stage_of}
use Rattle.image.proofs.Climbing.{parent_of, parent-below}
use Rattle.wellformed.specs.WellFormed.{layer_fits}
use Rattle.wellformed.proofs.Plain.{fitting}
use Rattle.normalizer.specs.Divergence.{sub_layer}
use Rattle.normalizer.specs.Layered.{Layered}
use Rattle.normalizer.proofs.Each.{all-at, member_at, member_concat}

-- a test behind one that fails
second : (a b : Bool) → a ≡ false → (a || b) ≡ true → b ≡ true
second true b e h = absurd (true≢false e)
second false b e h = h

module _ (v : Vir) where
  -- past the last layer nothing is listed, and nothing has a parent
  pub no_layer : (l : ℕ) → length v.layers ≤ l → layer_of v l ≡ record { parent = none; stages = [] }
  no_layer l h = get_or-eq_default v.layers (record { parent = none; stages = [] }) h

  pub parented : (l : ℕ) → (parent_of v l ≡ none → ⊥) → l < length v.layers
  parented l h = go (ltb l (length v.layers)) refl
    where
      go : (b : Bool) → ltb l (length v.layers) ≡ b → l < length v.layers
      go true e = ltb-true _ _ e
      go false e = absurd (h (ap (λ (x : Layer). x.parent) (no_layer l (ltb-false _ _ e))))

  pub lists : (l : ℕ) {t : ℕ} → Memᴰ t (layer_of v l).stages → l < length v.layers
  lists l {t} m = go (ltb l (length v.layers)) refl
    where
      go : (b : Bool) → ltb l (length v.layers) ≡ b → l < length v.layers
      go true e = ltb-true _ _ e
      go false e =
          absurd (Memᴰ.not-nil (subst (λ (x : Layer). Memᴰ t x.stages) (no_layer l (ltb-false _ _ e)) m))

module _ (v : Vir) (w : Layered v) where
  pub few-layers : length v.layers ≤ 64
  few-layers = (fitting v w.formed).layers

  six : (parents_below v && listed_by_own_layer v && listed_once v && interfaces_lie v && entered_from_parent v && entered_once v) ≡ true
  unfolding layer_rules
  six = left_true _ _ w.rules

  five : (parents_below v && listed_by_own_layer v && listed_once v && interfaces_lie v && entered_from_parent v) ≡ true
  five = left_true _ (entered_once v) six

  four : (parents_below v && listed_by_own_layer v && listed_once v && interfaces_lie v) ≡ true
  four = left_true _ (entered_from_parent v) five

  two : (parents_below v && listed_by_own_layer v) ≡ true
  two = left_true _ (listed_once v) (left_true _ (interfaces_lie v) four)

  -- a parent's number is below its child's
  pub parent_lower : (l : ℕ) → (parent_of v l ≡ none → ⊥) → parent_of v l < l
  parent_lower l h = parent-below v (left_true (parents_below v) _ two) l (parented v l h) h

  -- a stage that a layer lists exists, and has that layer in its own field
  pub listed_exists : (l : ℕ) {t : ℕ} → Memᴰ t (layer_of v l).stages → t < length v.stages
  listed_exists l {t} m =
      ltb-true _ _
      (all-at (λ (k : ℕ). ltb k (length v.stages))
      (right_true (or_none (length v.layers) (parent_of v l)) _
      (all-at (layer_fits (counts_of_vir v)) w.formed.layers (member_at v.layers l (record { parent = none; stages = [] }) (lists v l m))))
      m)

  pub listed_own : (l : ℕ) {t : ℕ} → Memᴰ t (layer_of v l).stages → (stage_of v t).layer ≡ l
  listed_own l m =
      eqb-true _ _
      (all-at (λ (k : ℕ). eqb (stage_of v k).layer l)
      (every-at (λ (n : ℕ). all (λ (k : ℕ). eqb (stage_of v k).layer n) (layer_of v n).stages) (length v.layers) l
      (right_true (parents_below v) (listed_by_own_layer v) two) (lists v l m))
      m)

  pub listed_once_lem : (t : ℕ) → t < length v.stages → occurrences t (concat (λ l. l.stages) v.layers) ≡ 1
  listed_once_lem t h =
      eqb-true _ _
      (every-at (λ (k : ℕ). eqb (occurrences k (concat (λ l. l.stages) v.layers)) 1) (length v.stages) t
      (right_true (parents_below v && listed_by_own_layer v) (listed_once v) (left_true _ (interfaces_lie v) four)) h)

  -- a layer that a stage's step enters has no parent, or the stage's layer for one
  pub entered_from : (t : ℕ) {m : ℕ} → t < length v.stages → Memᴰ m (entries v (stage_of v t)) → (parent_of v m ≡ none → ⊥)
      → parent_of v m ≡ (stage_of v t).layer
  entered_from t {m} h e n =
      eqb-true _ _
      (second _ _ (ne_eqb _ _ n)
      (all-at (λ (k : ℕ). eqb (parent_of v k) none || eqb (parent_of v k) (stage_of v t).layer)
      (every-at
      (λ (s : ℕ).
      all (λ (k : ℕ). eqb (parent_of v k) none || eqb (parent_of v k) (stage_of v s).layer) (entries v (stage_of v s)))
      (length v.stages) t (right_true (parents_below v && listed_by_own_layer v && listed_once v && interfaces_lie v) (entered_from_parent v) five) h)
      e))

  pub entered_once_lem : (l : ℕ) → (parent_of v l ≡ none → ⊥) → occurrences l (concat (entries v) v.stages) ≡ 1
  entered_once_lem l n =
      eqb-true _ _
      (second _ _ (ne_eqb _ _ n)
      (every-at (λ (k : ℕ). eqb (parent_of v k) none || eqb (occurrences k (concat (entries v) v.stages)) 1) (length v.layers) l
      (right_true (parents_below v && listed_by_own_layer v && listed_once v && interfaces_lie v && entered_from_parent v) (entered_once v) six) (parented v l n)))

  -- so the layer that a step of layer l enters, if it has a parent, has a higher number
  module _ (l t : ℕ) (a : Action) (i : ℕ) (listed : Memᴰ t (layer_of v l).stages) (stands : Memᴰ a (stage_of v t).steps)
      (enters : Memᴰ i (transfer_to a.step)) (child : parent_of v (sub_layer v i) ≡ none → ⊥) where
    pub child_parent : parent_of v (sub_layer v i) ≡ l
    child_parent =
        entered_from t (listed_exists l listed)
        (member_concat (λ (b : Action). concat (λ (j : ℕ). sub_layer v j ∷ []) (transfer_to b.step)) stands
        (member_concat (λ (j : ℕ). sub_layer v j ∷ []) enters (Memᴰ.head refl)))
        child
        ∙ listed_own l listed

    pub child_above : l < sub_layer v i
    child_above = omega (arith, parent_lower (sub_layer v i) child, child_parent)
