-- Each stage stands once in the list of its own layer, and each layer with a parent once among those that its parent's steps enter.
use mathlib.Core.Path.{◌≡◌, ◌∙◌, refl, sym, ap, subst}
use mathlib.Core.Bool.{Bool, true, false}
use mathlib.Core.List.{List, [], ◌∷◌, Memᴰ}
use Prim.Native.Nat.{ℕ, ◌*◌, ◌<◌, ◌≤◌}
use native.Mathlib.Nat.{one-mul, mul-zero}
use native.Mathlib.Omega.{arith}
use lib.Dec.{eqb, ltb}
use lib.ListN.{length}
use borrow.Author.Tests.{eqb-true, eqb-false, ltb-true, ltb-false}
use Rattle.vir.specs.Ids.{none}
use Rattle.image.specs.Kind.{concat, occurrences}
use Rattle.image.specs.LayerRules.{transfer_to, entries}
use Rattle.image.specs.Vir.{Vir, layer_of, stage_of}
use Rattle.image.proofs.Climbing.{parent_of}
use Rattle.normalizer.specs.Divergence.{sub_layer}
use Rattle.normalizer.specs.Layered.{Layered}
use Rattle.normalizer.proofs.Keeping.{child_of, children}
use Rattle.normalizer.proofs.Layering.{listed_exists, listed_own, listed_once_lem, entered_from, entered_once_lem, parent_lower}
use Rattle.normalizer.proofs.Occurrences.{at_other, absent, member_occurs}
use Rattle.normalizer.proofs.Sums.{total, below, one, one_same, one_apart, total_cong, total-zero, occurrences-concat, below_cong, below-zero, below_only, total_places, total-numbers}

-- the layers with a parent that a stage's steps enter, and those that a layer's do
abbrev pub entered_in : Vir → ℕ → List ℕ
entered_in v t = concat (children v) (stage_of v t).steps

abbrev pub entered_by : Vir → ℕ → List ℕ
entered_by v l = concat (entered_in v) (layer_of v l).stages

module _ (v : Vir) (w : Layered v) (s : ℕ) (h : s < length v.stages) where
  elsewhere : (l : ℕ) → (l ≡ (stage_of v s).layer → ⊥) → occurrences s (layer_of v l).stages ≡ 0
  elsewhere l a = absent s (layer_of v l).stages (λ m. a (sym (listed_own v w l m)))

  in_all : below (length v.layers) (λ l. occurrences s (layer_of v l).stages) ≡ 1
  in_all =
      sym (occurrences-concat s (λ l. l.stages) v.layers
      ∙ total_places (record { parent = none; stages = [] }) (λ l. occurrences s l.stages) v.layers)
      ∙ listed_once_lem v w s h

  pub owner_exists : (stage_of v s).layer < length v.layers
  owner_exists = go (ltb (stage_of v s).layer (length v.layers)) refl
    where
      go : (b : Bool) → ltb (stage_of v s).layer (length v.layers) ≡ b → (stage_of v s).layer < length v.layers
      go true e = ltb-true _ _ e
      go false e =
          let past : length v.layers ≤ (stage_of v s).layer = ltb-false _ _ e in
          absurd (omega (arith, in_all, below-zero (length v.layers) (λ l. occurrences s (layer_of v l).stages) (λ l k. elsewhere l (λ z. omega arith))))

  pub listed_in : (l : ℕ) → occurrences s (layer_of v l).stages ≡ one (stage_of v s).layer l
  listed_in l = go (eqb (stage_of v s).layer l) refl
    where
      go : (b : Bool) → eqb (stage_of v s).layer l ≡ b → occurrences s (layer_of v l).stages ≡ one (stage_of v s).layer l
      go true e =
          let own : (stage_of v s).layer ≡ l = eqb-true _ _ e in
          subst (λ (k : ℕ). occurrences s (layer_of v k).stages ≡ one (stage_of v s).layer k) own
          (sym (below_only (length v.layers) (λ l. occurrences s (layer_of v l).stages) (stage_of v s).layer owner_exists elsewhere)
          ∙ in_all ∙ sym (one_same (stage_of v s).layer (stage_of v s).layer refl))
      go false e = elsewhere l (λ z. eqb-false _ _ e (sym z)) ∙ sym (one_apart (stage_of v s).layer l (eqb-false _ _ e))

module _ (v : Vir) (x l : ℕ) where
  -- a layer without a parent is never among them
  pub root_never : parent_of v x ≡ none → occurrences x (entered_by v l) ≡ 0
  unfolding occurrences
  root_never e =
      occurrences-concat x (entered_in v) (layer_of v l).stages
      ∙ total-zero _ (layer_of v l).stages
      (λ t listed.
      occurrences-concat x (children v) (stage_of v t).steps
      ∙ total-zero _ (stage_of v t).steps
      (λ a stands.
      occurrences-concat x (child_of v) (transfer_to a.step)
      ∙ total-zero _ (transfer_to a.step) (λ i enters. go i (eqb (parent_of v (sub_layer v i)) none) refl)))
    where
      go : (i : ℕ) (b : Bool) → eqb (parent_of v (sub_layer v i)) none ≡ b
          → occurrences x (elim b [ true ↦ [] | false ↦ sub_layer v i ∷ [] ]) ≡ 0
      go i true z = refl
      go i false z = at_other x (sub_layer v i) [] (λ same. eqb-false _ _ z (ap (parent_of v) same ∙ e))

  module _ (w : Layered v) (child : parent_of v x ≡ none → ⊥) where
    abbrev times : ℕ → ℕ
    times t = occurrences x (entries v (stage_of v t))

    entered-times : (t : ℕ) → occurrences x (entered_in v t) ≡ times t
    unfolding occurrences
    entered-times t =
        occurrences-concat x (children v) (stage_of v t).steps
        ∙ total_cong _ _ (stage_of v t).steps
        (λ a stands.
        occurrences-concat x (child_of v) (transfer_to a.step)
        ∙ total_cong _ _ (transfer_to a.step) (λ i enters. go i (eqb (parent_of v (sub_layer v i)) none) refl)
        ∙ sym (occurrences-concat x (λ i. sub_layer v i ∷ []) (transfer_to a.step)))
        ∙ sym (occurrences-concat x (λ a. concat (λ i. sub_layer v i ∷ []) (transfer_to a.step)) (stage_of v t).steps)
      where
        go : (i : ℕ) (b : Bool) → eqb (parent_of v (sub_layer v i)) none ≡ b
            → occurrences x (elim b [ true ↦ [] | false ↦ sub_layer v i ∷ [] ]) ≡ occurrences x (sub_layer v i ∷ [])
        go i true z = sym (at_other x (sub_layer v i) [] (λ same. child (sym (ap (parent_of v) same) ∙ eqb-true _ _ z)))
        go i false z = refl

    -- it is entered from its parent's stages alone
    not_from : (t : ℕ) → t < length v.stages → ((stage_of v t).layer ≡ parent_of v x → ⊥) → times t ≡ 0
    not_from t k a = absent x (entries v (stage_of v t)) (λ m. a (sym (entered_from v w t k m child)))

    from_parent : l ≡ parent_of v x → (t : ℕ) → t < length v.stages → occurrences t (layer_of v l).stages * times t ≡ times t
    from_parent e t k = go (eqb (stage_of v t).layer l) refl
      where
        go : (b : Bool) → eqb (stage_of v t).layer l ≡ b → occurrences t (layer_of v l).stages * times t ≡ times t
        go true z =
            ap (λ (n : ℕ). n * times t) (listed_in v w t k l ∙ one_same (stage_of v t).layer l (eqb-true _ _ z)) ∙ one-mul (times t)
        go false z =
            let nothing : times t ≡ 0 = not_from t k (λ same. eqb-false _ _ z (same ∙ sym e)) in
            ap (λ (n : ℕ). occurrences t (layer_of v l).stages * n) nothing ∙ mul-zero (occurrences t (layer_of v l).stages) ∙ sym nothing

    pub child_once : occurrences x (entered_by v l) ≡ one (parent_of v x) l
    child_once =
        occurrences-concat x (entered_in v) (layer_of v l).stages
        ∙ total_cong _ _ (layer_of v l).stages (λ t listed. entered-times t)
        ∙ go (eqb (parent_of v x) l) refl
      where
        go : (b : Bool) → eqb (parent_of v x) l ≡ b → total times (layer_of v l).stages ≡ one (parent_of v x) l
        go true e =
            let same : parent_of v x ≡ l = eqb-true _ _ e in
            total-numbers (length v.stages) times (layer_of v l).stages (λ t listed. listed_exists v w l listed)
            ∙ below_cong (length v.stages) _ times (from_parent (sym same))
            ∙ sym
            (occurrences-concat x (entries v) v.stages ∙ total_places _ (λ t. occurrences x (entries v t)) v.stages)
            ∙ entered_once_lem v w x child ∙ sym (one_same (parent_of v x) l same)
        go false e =
            total-zero times (layer_of v l).stages
            (λ t listed. not_from t (listed_exists v w l listed) (λ z. eqb-false _ _ e (sym z ∙ listed_own v w l listed)))
            ∙ sym (one_apart (parent_of v x) l (eqb-false _ _ e))

    -- so what stands among them has a higher number
    pub entered-above : Memᴰ x (entered_by v l) → l < x
    entered-above m = go (eqb (parent_of v x) l) refl
      where
        go : (b : Bool) → eqb (parent_of v x) l ≡ b → l < x
        go true e = omega (arith, eqb-true (parent_of v x) l e, parent_lower v w x child)
        go false e = absurd (omega (arith, member_occurs m, child_once, one_apart (parent_of v x) l (eqb-false (parent_of v x) l e)))
