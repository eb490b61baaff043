-- Normalising begins each source stage once: the layers that lead to it are its own and those that this lies in, each entered once.
use mathlib.Core.Path.{◌≡◌, ◌∙◌, refl, sym, ap, ap₂, subst}
use mathlib.Core.Bool.{Bool, true, false}
use mathlib.Core.List.{List, [], ◌∷◌, Memᴰ}
use Prim.Native.Nat.{ℕ, zero, suc, ◌+◌, ◌<◌, ◌≤◌}
use native.Mathlib.Nat.{not-suc-le-zero, zero-add, add_comm}
use native.Mathlib.Omega.{arith}
use lib.Dec.{eqb}
use lib.ListN.{length}
use borrow.Author.Tests.{eqb-true, eqb-false}
use Rattle.vir.specs.Ids.{none}
use Rattle.image.specs.Kind.{concat, occurrences}
use Rattle.image.specs.Vir.{Vir, layer_of, stage_of}
use Rattle.image.proofs.Climbing.{parent_of}
use Rattle.normalizer.specs.Layered.{Layered}
use Rattle.normalizer.proofs.Each.{concat-concat}
use Rattle.normalizer.proofs.Keeping.{children, begins, roots_from}
use Rattle.normalizer.proofs.Layering.{parented, parent_lower}
use Rattle.normalizer.proofs.Occurrences.{member_occurs}
use Rattle.normalizer.proofs.Owners.{entered_in, entered_by, owner_exists, listed_in, root_never, child_once, entered-above}
use Rattle.normalizer.proofs.Roots.{roots-at, roots_exist}
use Rattle.normalizer.proofs.Sums.{total, one, one_same, one_apart, total_cong, total-add, total_one, total-cons, total-none, occurrences-nil, occurrences-cons, occurrences-concat}

-- a layer and those that it lies in
unfoldable line : ℕ → Vir → ℕ → List ℕ
line zero v l = []
line (suc k) v l = l ∷ elim (eqb (parent_of v l) none) [ true ↦ [] | false ↦ line k v (parent_of v l) ]

module _ (v : Vir) where
  line_root : (k l : ℕ) → eqb (parent_of v l) none ≡ true → line (suc k) v l ≡ l ∷ []
  unfolding line
  line_root k l e = ap (λ (b : Bool). l ∷ elim b [ true ↦ [] | false ↦ line k v (parent_of v l) ]) e

  line_child : (k l : ℕ) → eqb (parent_of v l) none ≡ false → line (suc k) v l ≡ l ∷ line k v (parent_of v l)
  unfolding line
  line_child k l e = ap (λ (b : Bool). l ∷ elim b [ true ↦ [] | false ↦ line k v (parent_of v l) ]) e

  -- what a layer's stages begin: they themselves, and what the layers begin that they enter
  begins-step : (s k l : ℕ)
      → occurrences s (begins (suc k) v l) ≡ occurrences s (layer_of v l).stages + total (λ m. occurrences s (begins k v m)) (entered_by v l)
  unfolding begins occurrences
  begins-step s k l =
      occurrences-concat s _ (layer_of v l).stages
      ∙ total-add (λ t. one t s) _ (layer_of v l).stages
      ∙ ap₂ ◌+◌ (total_one s (layer_of v l).stages)
      (total_cong _ _ (layer_of v l).stages
      (λ t listed. ap (occurrences s) (concat-concat (begins k v) (children v) (stage_of v t).steps))
      ∙ sym (occurrences-concat s (λ t. concat (begins k v) (entered_in v t)) (layer_of v l).stages)
      ∙ ap (occurrences s) (concat-concat (begins k v) (entered_in v) (layer_of v l).stages)
      ∙ occurrences-concat s (begins k v) (entered_by v l))

  module _ (w : Layered v) where
    -- a layer stands in a line as often as those that its steps enter, and once more if the line starts with it
    entered_in_line : (k x l : ℕ) → x < k
        → total (λ m. occurrences m (line k v x)) (entered_by v l) + one x l ≡ occurrences l (line k v x)
    entered_in_line zero x l h = absurd (not-suc-le-zero h)
    entered_in_line (suc k) x l h =
        go (eqb (parent_of v x) none) refl (λ (a : parent_of v x < x). entered_in_line k (parent_of v x) l (omega arith))
      where
        Agrees : List ℕ → Type 0
        Agrees ls = total (λ m. occurrences m ls) (entered_by v l) + one x l ≡ occurrences l ls

        go : (b : Bool) → eqb (parent_of v x) none ≡ b
            → (parent_of v x < x
            → total (λ m. occurrences m (line k v (parent_of v x))) (entered_by v l) + one (parent_of v x) l ≡ occurrences l (line k v (parent_of v x)))
            → Agrees (line (suc k) v x)
        go true e r =
            subst Agrees (sym (line_root k x e))
            (omega (arith, total-cons x (entered_by v l) [], total-none (entered_by v l), occurrences-cons l x [], occurrences-nil l, root_never v x l (eqb-true _ _ e)))
        go false e r =
            let child : parent_of v x ≡ none → ⊥ = eqb-false _ _ e in
            let rest : List ℕ = line k v (parent_of v x) in
            subst Agrees (sym (line_child k x e))
            (omega (arith, total-cons x (entered_by v l) rest, occurrences-cons l x rest, child_once v x l w child, r (parent_lower v w x child)))

    -- normalising a layer begins a stage as often as the layer stands in the stage's line
    module _ (s : ℕ) (h : s < length v.stages) where
      abbrev line_of : List ℕ
      line_of = line (suc (stage_of v s).layer) v (stage_of v s).layer

      begins_line : (k l : ℕ) → length v.layers ≤ k + l → l < length v.layers → occurrences s (begins k v l) ≡ occurrences l line_of
      begins_line zero l a b = absurd (omega arith)
      begins_line (suc k) l a b =
          begins-step s k l
          ∙ ap₂ ◌+◌ (listed_in v w s h l)
          (total_cong _ (λ m. occurrences m line_of) (entered_by v l)
          (λ m stands. below m stands (λ (c : l < m) (d : m < length v.layers). begins_line k m (omega arith) d)))
          ∙ add_comm (one (stage_of v s).layer l) _
          ∙ entered_in_line (suc (stage_of v s).layer) (stage_of v s).layer l (omega arith)
        where
          below : (m : ℕ) → Memᴰ m (entered_by v l)
              → (l < m → m < length v.layers → occurrences s (begins k v m) ≡ occurrences m line_of) → occurrences s (begins k v m) ≡ occurrences m line_of
          below m stands r =
              let child : parent_of v m ≡ none → ⊥ = λ e. omega (arith, member_occurs stands, root_never v m l e) in
              r (entered-above v m l w child stands) (parented v m child)

module _ (v : Vir) (w : Layered v) where
  -- one root in each line
  roots_in_line : (k x : ℕ) → x < k → x < length v.layers → total (λ r. occurrences r (line k v x)) (roots_from 0 v.layers) ≡ 1
  roots_in_line zero x h a = absurd (not-suc-le-zero h)
  roots_in_line (suc k) x h a =
      go (eqb (parent_of v x) none) refl (λ (b : parent_of v x < x). roots_in_line k (parent_of v x) (omega arith) (omega arith))
    where
      root : occurrences x (roots_from 0 v.layers) ≡ one (parent_of v x) none
      root = ap (λ (n : ℕ). occurrences n (roots_from 0 v.layers)) (sym (zero-add x)) ∙ roots-at 0 x v.layers a

      One : List ℕ → Type 0
      One ls = total (λ r. occurrences r ls) (roots_from 0 v.layers) ≡ 1

      go : (b : Bool) → eqb (parent_of v x) none ≡ b → (parent_of v x < x → One (line k v (parent_of v x))) → One (line (suc k) v x)
      go true e r =
          subst One (sym (line_root v k x e))
          (omega (arith, total-cons x (roots_from 0 v.layers) [], total-none (roots_from 0 v.layers), root, one_same (parent_of v x) none (eqb-true _ _ e)))
      go false e r =
          let child : parent_of v x ≡ none → ⊥ = eqb-false _ _ e in
          subst One (sym (line_child v k x e))
          (omega
          (arith, total-cons x (roots_from 0 v.layers) (line k v (parent_of v x)), root, one_apart (parent_of v x) none child, r (parent_lower v w x child)))

  pub begun_once : (s : ℕ) → s < length v.stages
      → occurrences s (concat (begins (length v.layers) v) (roots_from 0 v.layers)) ≡ 1
  begun_once s h =
      occurrences-concat s (begins (length v.layers) v) (roots_from 0 v.layers)
      ∙ total_cong _ _ (roots_from 0 v.layers)
      (λ r m. begins_line v w s h (length v.layers) r (omega arith) (omega (arith, roots_exist 0 v.layers m)))
      ∙ roots_in_line (suc (stage_of v s).layer) (stage_of v s).layer (omega arith) (owner_exists v w s h)
