-- What normalising gives is flat.
use mathlib.Core.Path.{◌≡◌, ◌∙◌, refl, sym, ap, ap₂, subst}
use mathlib.Core.Bool.{Bool, true, false, cond, ◌&&◌}
use mathlib.Core.List.{List, [], ◌∷◌, ◌++◌}
use Prim.Native.Nat.{ℕ, zero, suc, ◌+◌, ◌-◌, ◌≤◌, ◌<◌}
use native.Mathlib.Omega.{arith}
use lib.Dec.{eqb, ltb}
use lib.ListN.{length, get_or, get_or-append, get_or-map, get_or-eq_default}
use lib.Seq.{get_or-append-add}
use borrow.Author.Tests.{eqb-true, eqb-false, eq-eqb, ne_eqb, ltb-true, ltb-false, lt-ltb}
use Rattle.std.proofs.lemmas.List.{get_or_default}
use Rattle.vir.specs.declared.interface.InterfaceKind.TheVariants.{Inspect}
use Rattle.vir.specs.Ids.{none}
use Rattle.records.specs.Layout.{within}
use Rattle.records.proofs.Every.{every-at, every_from}
use Rattle.image.specs.Encode.{counts_of_vir}
use Rattle.image.specs.Kind.{all, concat, occurrences, present, stages_of, listed, listed_by_own, flat, kind_of_vir}
use Rattle.image.specs.View.{collect}
use Rattle.image.specs.Vir.{Interface, Stage, Vir, interface_of, stage_of}
use Rattle.image.proofs.Diverging.{occurrences-append}
use Rattle.image.proofs.Viewing.{get_or-collect}
use Rattle.wellformed.proofs.Plain.{fitting}
use Rattle.normalizer.specs.Layered.{Layered}
use Rattle.normalizer.specs.Once.{SetOnce}
use Rattle.normalizer.specs.Normalize.{normalizer_of, unwrap, normalize}
use Rattle.normalizer.proofs.Formed.{stages-length, facts, good_at, normal_formed}
use Rattle.normalizer.proofs.Members.{all_one, all_imp}
use Rattle.normalizer.proofs.Sound.{single, Shape, Good, as_many, stages_grow}

module _ {A : Type 0} (g : A → List ℕ) (t : ℕ) where
  occurrences-concat : (xs ys : List A) → occurrences t (concat g (xs ++ ys)) ≡ occurrences t (concat g xs) + occurrences t (concat g ys)
  unfolding concat occurrences
  occurrences-concat [] ys = omega arith
  occurrences-concat (x ∷ xs) ys =
      omega
      (arith, occurrences-append t (g x) (concat g (xs ++ ys)), occurrences-append t (g x) (concat g xs), occurrences-concat xs ys)

-- the interface of a new stage lists it
single_lists : (t : ℕ) → t < none → stages_of (single t) ≡ t ∷ []
unfolding present
single_lists t h = ap (λ (b : Bool). cond b [] (t ∷ [])) (ne_eqb t none (λ e. omega (arith, e, h)))

singles_list : (a n t : ℕ) → a ≤ t → t < a + n → t < none → 0 < occurrences t (concat stages_of (collect single a n))
unfolding concat collect occurrences
singles_list a zero t l h s = absurd (omega (arith, l, h))
singles_list a (suc n) t l h s = go (eqb a t) refl (λ (k : suc a ≤ t). singles_list (suc a) n t k (omega (arith, h)) s)
  where
    rest : List ℕ
    rest = concat stages_of (collect single (suc a) n)

    go : (b : Bool) → eqb a t ≡ b → (suc a ≤ t → 0 < occurrences t rest) → 0 < occurrences t (stages_of (single a) ++ rest)
    go true e r =
        let here : occurrences t (stages_of (single a)) ≡ 1 =
        ap (occurrences t) (single_lists a (omega (arith, l, s))) ∙ ap (λ (b : Bool). cond b 1 0 + 0) e in
        omega (arith, here, occurrences-append t (stages_of (single a)) rest)
    go false e r =
        let apart : a ≡ t → ⊥ = eqb-false a t e in
        omega (arith, occurrences-append t (stages_of (single a)) rest, r (omega (arith, l)))

-- a layered value has passed both tests of its lists
kind-listed : (own list : Bool) (rest : ℕ) → cond (own && list) rest 0 ≡ 2 → (own ≡ true) × (list ≡ true)
kind-listed true true rest h = (refl, refl)
kind-listed true false rest h = absurd (omega (arith, h))
kind-listed false list rest h = absurd (omega (arith, h))

module _ (v : Vir) (y : Layered v) where
  own_before : (listed_by_own v ≡ true) × (listed v ≡ true)
  unfolding kind_of_vir
  own_before = kind-listed (listed_by_own v) (listed v) _ y.kind

  module _ (once : SetOnce v) (counted : within (counts_of_vir (normalize v)) ≡ true) where
    abbrev w : Vir
    w = normalize v

    abbrev shape : Shape v (normalizer_of v)
    shape = (facts v y).shape

    good_stage : (t : ℕ) → t < length w.stages → Good v (counts_of_vir w) t (stage_of w t)
    unfolding normalize
    good_stage t h =
        subst (Good v (counts_of_vir w) t)
        (sym (get_or_default w.stages t _ (unwrap []) h ∙ get_or-map unwrap (normalizer_of v).stages t []))
        (good_at v y once t (omega (arith, h, stages-length v)))

    grown : length v.stages ≤ length w.stages
    grown = omega (arith, stages-length v, stages_grow shape)

    -- a source stage keeps its interface
    own_kept : (i : ℕ) → i < length v.interfaces → (t : ℕ) → eqb (stage_of v t).interface i ≡ true → eqb (stage_of w t).interface i ≡ true
    own_kept i h t e = go (ltb t (length v.stages)) refl
      where
        go : (b : Bool) → ltb t (length v.stages) ≡ b → eqb (stage_of w t).interface i ≡ true
        go true k =
            let inside : t < length v.stages = ltb-true t (length v.stages) k in
            ap (λ (x : ℕ). eqb x i) ((good_stage t (omega (arith, inside, grown))).home.own inside) ∙ e
        go false k =
            let past : (stage_of v t).interface ≡ none =
            ap (λ (s : Stage). s.interface) (get_or-eq_default v.stages _ {n = t} (ltb-false t (length v.stages) k)) in
            absurd (omega (arith, h, eqb-true (stage_of v t).interface i e, past, (fitting v y.formed).interfaces))

    -- what stands past the last interface
    abbrev absent : Interface
    absent = record { layer = none; kind = Inspect; key = 0; list = [] }

    -- the source's interfaces come first, then those of the new stages
    interface-kept : (i : ℕ) → i < length v.interfaces → interface_of w i ≡ interface_of v i
    unfolding normalize
    interface-kept i h =
        ap (λ (l : List Interface). get_or l i absent) shape.interfaces ∙ get_or-append v.interfaces shape.new absent i h

    interface-new : (i k : ℕ) → i ≡ length v.interfaces + k → k < shape.single.count → interface_of w i ≡ single (length v.stages + k)
    unfolding normalize
    interface-new i k e h =
        ap₂ (λ (l : List Interface) (j : ℕ). get_or l j absent) shape.interfaces e
        ∙ get_or-append-add v.interfaces shape.new k absent
        ∙ ap (λ (l : List Interface). get_or l k absent) shape.single.same
        ∙ get_or-collect single absent (length v.stages) shape.single.count k h

    own_new : (i : ℕ) → length v.interfaces ≤ i → i < length w.interfaces
        → all (λ t. eqb (stage_of w t).interface i) (stages_of (interface_of w i)) ≡ true
    unfolding normalize
    own_new i l h =
        let k : ℕ = i - length v.interfaces in
        let t : ℕ = length v.stages + k in
        let fresh : k < shape.single.count = omega (arith, l, h, as_many shape, shape.single.ends) in
        let inside : t < length w.stages = omega (arith, fresh, stages-length v, shape.single.ends) in
        let named : (stage_of w t).interface + length v.stages ≡ length v.interfaces + t = (good_stage t inside).home.new (omega arith) in
        ap (λ (x : Interface). all (λ t. eqb (stage_of w t).interface i) (stages_of x)) (interface-new i k (omega (arith, l)) fresh)
        ∙ ap (all (λ t. eqb (stage_of w t).interface i)) (single_lists t (omega (arith, inside, (fitting w (normal_formed v y once counted)).stages)))
        ∙ all_one (λ t. eqb (stage_of w t).interface i) t (eq-eqb (stage_of w t).interface i (omega (arith, named, l)))

    own_after : listed_by_own w ≡ true
    own_after = every_from _ (length w.interfaces) (λ i h. go i h (ltb i (length v.interfaces)) refl)
      where
        go : (i : ℕ) → i < length w.interfaces → (b : Bool) → ltb i (length v.interfaces) ≡ b
            → all (λ t. eqb (stage_of w t).interface i) (stages_of (interface_of w i)) ≡ true
        go i h true e =
            let before : i < length v.interfaces = ltb-true i (length v.interfaces) e in
            ap (λ (x : Interface). all (λ t. eqb (stage_of w t).interface i) (stages_of x)) (interface-kept i before)
            ∙ all_imp (λ t. eqb (stage_of v t).interface i) (λ t. eqb (stage_of w t).interface i) (own_kept i before) (stages_of (interface_of v i))
            (every-at (λ i. all (λ t. eqb (stage_of v t).interface i) (stages_of (interface_of v i))) (length v.interfaces) i own_before.0 before)
        go i h false e = own_new i (ltb-false i (length v.interfaces) e) h

    listed-after : listed w ≡ true
    unfolding normalize
    listed-after = every_from _ (length w.stages) (λ t h. lt-ltb 0 _ (go t h (ltb t (length v.stages)) refl))
      where
        two : (t : ℕ) → occurrences t (concat stages_of w.interfaces)
            ≡ occurrences t (concat stages_of v.interfaces) + occurrences t (concat stages_of (collect single (length v.stages) shape.single.count))
        two t =
            ap (λ (l : List Interface). occurrences t (concat stages_of l)) shape.interfaces
            ∙ occurrences-concat stages_of t v.interfaces shape.new
            ∙ ap (λ (l : List Interface). occurrences t (concat stages_of v.interfaces) + occurrences t (concat stages_of l)) shape.single.same

        go : (t : ℕ) → t < length w.stages → (b : Bool) → ltb t (length v.stages) ≡ b → 0 < occurrences t (concat stages_of w.interfaces)
        go t h true e =
            let before : 0 < occurrences t (concat stages_of v.interfaces) =
            ltb-true 0 _
            (every-at (λ t. ltb 0 (occurrences t (concat stages_of v.interfaces))) (length v.stages) t own_before.1
            (ltb-true t (length v.stages) e)) in
            omega (arith, before, two t)
        go t h false e =
            let past : length v.stages ≤ t = ltb-false t (length v.stages) e in
            let fresh =
            singles_list (length v.stages) shape.single.count t past (omega (arith, h, stages-length v, shape.single.ends))
            (omega (arith, h, (fitting w (normal_formed v y once counted)).stages)) in
            omega (arith, fresh, two t)

    flat_after : flat w ≡ true
    unfolding normalize
    flat_after =
        every_from (λ t. eqb (stage_of w t).transfer none) (length w.stages)
        (λ t h. eq-eqb (stage_of w t).transfer none (good_stage t h).transfer)

    pub normal_flat : kind_of_vir (normalize v) ≡ 1
    unfolding kind_of_vir normalize
    normal_flat = λ i. cond (own_after i && listed-after i) (cond false 2 (cond (flat_after i) 1 0)) 0
