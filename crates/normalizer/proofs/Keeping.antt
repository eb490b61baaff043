-- What each change of the normalizer keeps, normalising keeps.
use mathlib.Core.Path.{◌≡◌, ◌∙◌, refl, sym, ap, subst}
use mathlib.Core.Bool.{Bool, true, false}
use mathlib.Core.List.{List, [], ◌∷◌, ◌++◌, Memᴰ, append-nil, append_assoc}
use Prim.Native.Nat.{ℕ, zero, suc, ◌<◌}
use native.Mathlib.Omega.{arith}
use lib.Dec.{eqb, leb}
use lib.ListN.{length}
use borrow.Author.Tests.{ne_eqb}
use Rattle.vir.specs.declared.step.Step.{Step}
use Rattle.vir.specs.Ids.{none}
use Rattle.image.specs.Kind.{concat}
use Rattle.image.specs.LayerRules.{transfer_to}
use Rattle.image.specs.Loops.{each}
use Rattle.image.specs.Vir.{Action, Layer, Local, Stage, Vir, layer_of, stage_of}
use Rattle.image.proofs.Climbing.{parent_of}
use Rattle.normalizer.specs.Divergence.{sub_layer, step_divergence, layer_divergence}
use Rattle.normalizer.specs.Layered.{Layered}
use Rattle.normalizer.specs.Normalize.{Normalizer, Piece, carry, begun, go_on, normalize_layer, normalize_stage, normalizer_of, opened, push_local, push_piece, put_stage, roots, set_final, split_at, stepped}
use Rattle.normalizer.proofs.Each.{concat-concat, each_keeps, each_grows}
use Rattle.normalizer.proofs.Layering.{lists, few-layers, listed_exists}
use Rattle.normalizer.proofs.Splits.{split_enters, prepared, split-is}

-- the layers with a parent that a step enters
abbrev pub child_of : Vir → ℕ → List ℕ
child_of v i = elim (eqb (parent_of v (sub_layer v i)) none) [ true ↦ [] | false ↦ sub_layer v i ∷ [] ]

abbrev pub children : Vir → Action → List ℕ
children v a = concat (child_of v) (transfer_to a.step)

-- the source stages that normalising a layer begins
unfoldable pub begins : ℕ → Vir → ℕ → List ℕ
begins zero v l = []
begins (suc k) v l = concat (λ t. t ∷ concat (λ a. concat (begins k v) (children v a)) (stage_of v t).steps) (layer_of v l).stages

-- the layers without a parent, from l on
unfoldable pub roots_from : ℕ → List Layer → List ℕ
roots_from l [] = []
roots_from l (x ∷ xs) = elim (eqb x.parent none) [ true ↦ l ∷ roots_from (suc l) xs | false ↦ roots_from (suc l) xs ]

-- P b q n says something of the normalizer n, the source stages b begun so far and the pieces q at work, and every change keeps it
pub record Keeping (v : Vir) (P : List ℕ → List ℕ → Normalizer → Type 0) : Type 0 where
  pub begin : (b q : List ℕ) (n : Normalizer) (t : ℕ) → t < length v.stages → P b q n → P (b ++ (t ∷ [])) (t ∷ q) n
  pub push : (b q : List ℕ) (n : Normalizer) → P b q n → P b (length n.stages ∷ q) (push_piece n)
  pub swap : (b q : List ℕ) (n : Normalizer) (x y : ℕ) → P b (x ∷ y ∷ q) n → P b (y ∷ x ∷ q) n
  pub put : (b q : List ℕ) (n : Normalizer) (id : ℕ) (t : Stage) → P b (id ∷ q) n → P b q (put_stage id t n)
  pub local : (b q : List ℕ) (n : Normalizer) (x : Local) → P b q n → P b q (push_local x n)
  pub final : (b q : List ℕ) (n : Normalizer) (l i : ℕ) → P b q n → P b q (set_final l i n)

-- the Rust's loop over all layers runs through those without a parent
roots-each : (v : Vir) (l : ℕ) (xs : List Layer) (n : Normalizer)
    → roots v l xs n ≡ each (normalize_layer (length v.layers) v) (roots_from l xs) n
unfolding roots roots_from each
roots-each v l [] n = refl
roots-each v l (x ∷ xs) n = go (eqb x.parent none) (λ (n : Normalizer). roots-each v (suc l) xs n)
  where
    go : (b : Bool) → ((n : Normalizer) → roots v (suc l) xs n ≡ each (normalize_layer (length v.layers) v) (roots_from (suc l) xs) n)
        → roots v (suc l) xs (elim b [ true ↦ normalize_layer (length v.layers) v l n | false ↦ n ])
        ≡ each (normalize_layer (length v.layers) v) (elim b [ true ↦ l ∷ roots_from (suc l) xs | false ↦ roots_from (suc l) xs ]) n
    go true r = r (normalize_layer (length v.layers) v l n)
    go false r = r n

module _ (v : Vir) (w : Layered v) (P : List ℕ → List ℕ → Normalizer → Type 0) (keeping : Keeping v P) where
  module _ (deep : ℕ → Normalizer → Normalizer) (g : ℕ → List ℕ)
      (deeply : (m : ℕ) (b q : List ℕ) (n : Normalizer) → P b q n → P (b ++ g m) q (deep m n)) where
    -- a step's layers, one of which at most is entered
    through : (f : ℕ → Normalizer → Normalizer) (s : Step) (b q : List ℕ) (n : Normalizer)
        → ((i : ℕ) → Memᴰ i (transfer_to s) → (b : List ℕ) (n : Normalizer) → P b q n → P (b ++ concat g (child_of v i)) q (f i n))
        → P b q n → P (b ++ concat g (concat (child_of v) (transfer_to s))) q (each f (transfer_to s) n)
    through f s b q n h i =
        subst (λ (l : List ℕ). P (b ++ l) q (each f (transfer_to s) n)) (concat-concat g (child_of v) (transfer_to s))
        (each_grows (λ c n. P c q n) f (λ i. concat g (child_of v i)) (transfer_to s) h b n i)

    go_on_keeps : (source : Stage) (a : Action) (q b : List ℕ) (p : Piece) → P b (p.id ∷ q) p.normalizer
        → P (b ++ concat g (children v a)) (p.id ∷ q) (go_on v deep source a p).normalizer
    unfolding concat
    go_on_keeps source a q b p =
        through _ a.step b (p.id ∷ q) p.normalizer (λ i m c n. go i c n (eqb (parent_of v (sub_layer v i)) none))
      where
        go : (i : ℕ) (c : List ℕ) (n : Normalizer) (t : Bool) → P c (p.id ∷ q) n
            → P (c ++ concat g (elim t [ true ↦ [] | false ↦ sub_layer v i ∷ [] ])) (p.id ∷ q) (elim t [ true ↦ n | false ↦ deep (sub_layer v i) n ])
        go i c n true h = subst (λ (l : List ℕ). P l (p.id ∷ q) n) (sym (append-nil c)) h
        go i c n false h =
            subst (λ (l : List ℕ). P (c ++ l) (p.id ∷ q) (deep (sub_layer v i) n)) (sym (append-nil (g (sub_layer v i))))
            (deeply (sub_layer v i) c (p.id ∷ q) n h)

    -- where the stage is split, the layer that is entered has a parent
    entered_keeps : (x : ℕ) (i : ℕ) (q b : List ℕ) (n : Normalizer) → (parent_of v (sub_layer v i) ≡ none → ⊥) → P b q n
        → P (b ++ concat g (child_of v i)) q (deep (sub_layer v i) (set_final (sub_layer v i) x n))
    unfolding concat
    entered_keeps x i q b n c h =
        let whole : concat g (child_of v i) ≡ g (sub_layer v i) =
        ap (λ (t : Bool). concat g (elim t [ true ↦ [] | false ↦ sub_layer v i ∷ [] ])) (ne_eqb _ _ c) ∙ append-nil (g (sub_layer v i)) in
        subst (λ (l : List ℕ). P (b ++ l) q (deep (sub_layer v i) (set_final (sub_layer v i) x n))) (sym whole)
        (deeply (sub_layer v i) b q (set_final (sub_layer v i) x n) (keeping.final b q n (sub_layer v i) x h))

    split_keeps : (source : Stage) (a : Action) (q b : List ℕ) (p : Piece)
        → ((i : ℕ) → Memᴰ i (transfer_to a.step) → parent_of v (sub_layer v i) ≡ none → ⊥) → P b (p.id ∷ q) p.normalizer
        → P (b ++ concat g (children v a)) ((split_at v deep source a p).id ∷ q) (split_at v deep source a p).normalizer
    split_keeps source a q b p c h =
        let new : ℕ = length p.normalizer.stages in
        subst (λ (x : Piece). P (b ++ concat g (children v a)) (x.id ∷ q) x.normalizer) (sym (split-is v deep source a p))
        (keeping.put _ _ _ p.id _
        (keeping.swap _ q _ new p.id
        (through _ a.step b (new ∷ p.id ∷ q) (prepared v source p).normalizer
        (λ i m b n. entered_keeps (length p.normalizer.interfaces) i (new ∷ p.id ∷ q) b n (c i m))
        (each_keeps (λ s. P b (new ∷ p.id ∷ q) s.normalizer) (carry v.types) p.open_wires (λ o s. keeping.local _ _ _ _) _
        (keeping.push _ _ _ h)))))

    stepped_keeps : (source : Stage) (l : ℕ) (a : Action) (q b : List ℕ) (p : Piece) → l < none → P b (p.id ∷ q) p.normalizer
        → P (b ++ concat g (children v a)) ((stepped v deep source l a p).id ∷ q) (stepped v deep source l a p).normalizer
    stepped_keeps source l a q b p k h = go (leb (step_divergence (layer_divergence (length v.layers) v) v a.step) l) refl
      where
        choice : Bool → Piece
        choice t = elim t [ true ↦ split_at v deep source a (opened a p) | false ↦ go_on v deep source a (opened a p) ]

        go : (t : Bool) → leb (step_divergence (layer_divergence (length v.layers) v) v a.step) l ≡ t
            → P (b ++ concat g (children v a)) ((choice t).id ∷ q) (choice t).normalizer
        go true e =
            split_keeps source a q b (opened a p)
            (λ i m. split_enters v (layer_divergence (length v.layers) v) a.step m e k) h
        go false e = go_on_keeps source a q b (opened a p) h

    stage_keeps : (source : Stage) (l t : ℕ) (q b : List ℕ) (n : Normalizer) → l < none → t < length v.stages → P b q n
        → P (b ++ (t ∷ concat (λ a. concat g (children v a)) source.steps)) q (normalize_stage v deep source l t n)
    stage_keeps source l t q b n k e h =
        subst (λ (c : List ℕ). P c q (normalize_stage v deep source l t n))
        (append_assoc b (t ∷ []) (concat (λ a. concat g (children v a)) source.steps))
        (keeping.put _ q _ _ _
        (each_grows (λ c p. P c (p.id ∷ q) p.normalizer) (stepped v deep source l) (λ a. concat g (children v a)) source.steps
        (λ a m c p. stepped_keeps source l a q c p k) (b ++ (t ∷ [])) _ (keeping.begin b q n t e h)))

  pub normalize_keeps : (k l : ℕ) (q b : List ℕ) (n : Normalizer) → P b q n → P (b ++ begins k v l) q (normalize_layer k v l n)
  unfolding begins normalize_layer
  normalize_keeps zero l q b n h = subst (λ (c : List ℕ). P c q n) (sym (append-nil b)) h
  normalize_keeps (suc k) l q b n h =
      each_grows (λ c n. P c q n) _ _ (layer_of v l).stages
      (λ t listed c n.
      stage_keeps (normalize_layer k v) (begins k v) (λ m b q n. normalize_keeps k m q b n) (stage_of v t) l t q c n
      (omega (arith, lists v l listed, few-layers v w)) (listed_exists v w l listed))
      b n h

  pub normalized_keeps : P [] [] (begun v) → P (concat (begins (length v.layers) v) (roots_from 0 v.layers)) [] (normalizer_of v)
  unfolding normalizer_of
  normalized_keeps h =
      subst (P (concat (begins (length v.layers) v) (roots_from 0 v.layers)) []) (sym (roots-each v 0 v.layers (begun v)))
      (each_grows (λ c n. P c [] n) (normalize_layer (length v.layers) v) (begins (length v.layers) v) (roots_from 0 v.layers)
      (λ l m b n. normalize_keeps (length v.layers) l [] b n) [] (begun v) h)
