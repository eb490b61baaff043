-- The stages that an interface or a layer lists, in the view and in the bytes.
use mathlib.Core.Path.{◌≡◌, ◌∙◌, refl, sym, ap, subst}
use mathlib.Core.Bool.{Bool, true, false, cond, ◌&&◌}
use mathlib.Core.List.{List, [], ◌∷◌}
use Prim.Native.Nat.{ℕ, zero, suc, ◌+◌, ◌*◌, ◌-◌, ◌<◌, ◌≤◌}
use native.Mathlib.Nat.{le_of_suc-le-suc, not-suc-le-zero}
use native.Mathlib.Omega.{arith}
use lib.Dec.{eqb}
use borrow.Author.Tests.{eqb-true, eqb-false, ne_eqb}
use Rattle.std.specs.Prelude.{Option, Some, None}
use Rattle.vir.specs.declared.interface.InterfaceKind.TheVariants.{Inspect}
use Rattle.vir.specs.Ids.{none}
use Rattle.vir.specs.Interface.{kind_of}
use Rattle.records.specs.declared.layout.Counts.{Counts}
use Rattle.records.specs.declared.layout.Section.{Section}
use Rattle.records.specs.declared.record.InterfaceRecord.{InterfaceRecord}
use Rattle.records.specs.declared.record.Run.{Run}
use Rattle.records.specs.Bytes.{u16_at}
use Rattle.records.specs.Layout.{refs_at, layers_at, interfaces_at, count_of, place_of}
use Rattle.records.specs.Records.{layer_at, interface_at}
use Rattle.image.specs.declared.tally.Owner.{Owner}
use Rattle.image.specs.Accepted.{Inside, NamedOrNone, InterfaceFacts, Accepted}
use Rattle.image.specs.Kind.{all, present, stages_in, stages_of}
use Rattle.image.specs.Listing.{Lister, ByInterface, ByLayer, section_of, owner_of, list_at, listed_by, all_listed, number_in, all_own}
use Rattle.image.specs.Tally.{tally, owner_is}
use Rattle.image.specs.View.{collect, kind_in, refs_from, view_of}
use Rattle.image.specs.Vir.{Layer, Stage, Vir, interface_of, stage_of}
use Rattle.image.proofs.Owning.{all_named, entries-named, Owning, owning_start, owning_on, owning_end}
use Rattle.image.proofs.Viewing.{length-layers, length-interfaces, layer-at, interface-at, stage_at_lem}

kind_lists_lem : (k : ℕ) (l : List ℕ) → k < 5 → (k ≡ 4 → ⊥) → stages_in (kind_in (kind_of k)) l ≡ present l
unfolding kind_of
kind_lists_lem zero l h n = refl
kind_lists_lem (suc zero) l h n = refl
kind_lists_lem (suc (suc zero)) l h n = refl
kind_lists_lem (suc (suc (suc zero))) l h n = refl
kind_lists_lem (suc (suc (suc (suc zero)))) l h n = absurd (n refl)
kind_lists_lem (suc (suc (suc (suc (suc k))))) l h n =
    absurd (not-suc-le-zero (le_of_suc-le-suc (le_of_suc-le-suc (le_of_suc-le-suc (le_of_suc-le-suc (le_of_suc-le-suc h))))))

-- a list in which nothing is none is listed whole
present_whole : (e : ℕ → ℕ) (k n : ℕ) → ((j : ℕ) → k ≤ j → j < k + n → e j ≡ none → ⊥) → present (collect e k n) ≡ collect e k n
unfolding present collect
present_whole e k zero h = refl
present_whole e k (suc n) h =
    ap (λ (b : Bool). cond b (present (collect e (suc k) n)) (e k ∷ present (collect e (suc k) n))) (ne_eqb (e k) none (h k (omega arith) (omega arith)))
    ∙ ap (λ (l : List ℕ). e k ∷ l) (present_whole e (suc k) n (λ j a b. h j (omega arith) (omega arith)))

-- what a record lists: nothing, or refs each of which names a stage or is none
abbrev Listing : List ℕ → Counts → List ℕ → Option Run → Type 0
Listing s c l None = l ≡ []
Listing s c l (Some run) =
    (l ≡ present (refs_from s c run)) × Inside run c.refs
    × ((k : ℕ) → run.first ≤ k → k < run.first + run.count → NamedOrNone (u16_at s (refs_at c + 2 * k)) c.stages)

module _ (s : List ℕ) (c : Counts) where
  abbrev v : Vir
  v = view_of s c

  -- whether a stage has the number of a record, and whether all that the record lists do
  abbrev has : Lister → ℕ → ℕ → Bool
  has x k t = eqb (number_in x (stage_of v t)) k

  abbrev own : Lister → ℕ → Bool
  own x k = all (has x k) (listed_by x v k)

  has_number : (x : Lister) (k t : ℕ) → t < c.stages → owner_is s c (owner_of x k) t ≡ has x k t
  has_number ByInterface k t h = sym (ap (λ (y : Stage). eqb y.interface k) (stage_at_lem s c t h))
  has_number ByLayer k t h = sym (ap (λ (y : Stage). eqb y.layer k) (stage_at_lem s c t h))

  -- record by record
  abbrev pub OwningBy : Lister → List ℕ → ℕ → Bool → List ℕ → Type 0
  OwningBy ByInterface = Owning (own ByInterface) stages_of v.interfaces
  OwningBy ByLayer = Owning (own ByLayer) (λ l. l.stages) v.layers

  pub owning_by_start : (x : Lister) (counts : List ℕ) → OwningBy x (tally (all_listed x v) counts) 0 true counts
  owning_by_start ByInterface counts = owning_start _ _ _ counts
  owning_by_start ByLayer counts = owning_start _ _ _ counts

  pub owning_by_on : (x : Lister) (target : List ℕ) (k : ℕ) (ok : Bool) (counts : List ℕ) {r : Bool} {after : List ℕ} → OwningBy x target k ok counts
      → k < count_of c (section_of x) → (r ≡ own x k) × (after ≡ tally (listed_by x v k) counts) → OwningBy x target (k + 1) (ok && r) after
  owning_by_on ByInterface target k ok counts w h e =
      owning_on w (record { layer = none; kind = Inspect; key = 0; list = [] }) (omega (arith, h, length-interfaces s c)) (ap (λ (b : Bool). ok && b) e.0) e.1
  owning_by_on ByLayer target k ok counts w h e =
      owning_on w (record { parent = none; stages = [] }) (omega (arith, h, length-layers s c)) (ap (λ (b : Bool). ok && b) e.0) e.1

  pub owning_by_end : (x : Lister) (target : List ℕ) (k : ℕ) (ok : Bool) (counts : List ℕ) → OwningBy x target k ok counts
      → count_of c (section_of x) ≤ k → (ok ≡ all_own x v) × (counts ≡ target)
  owning_by_end ByInterface target k ok counts w h = owning_end w (omega (arith, h, length-interfaces s c))
  owning_by_end ByLayer target k ok counts w h = owning_end w (omega (arith, h, length-layers s c))

  module _ (a : Accepted s c) where
    module _ (i : ℕ) (h : i < c.interfaces) where
      abbrev interface : InterfaceRecord
      interface = interface_at s (interfaces_at c + 9 * i)

      known : InterfaceFacts s c interface
      known = a.interfaces i h

      interface_lists : Listing s c (listed_by ByInterface v i) (list_at ByInterface s (interfaces_at c + 9 * i))
      unfolding kind_of
      interface_lists = go (eqb interface.kind 4) refl
        where
          listed : stages_of (interface_of v i) ≡ stages_in (kind_in (kind_of interface.kind)) (refs_from s c interface.list)
          listed = ap stages_of (interface-at s c i h)

          go : (b : Bool) → eqb interface.kind 4 ≡ b → Listing s c (stages_of (interface_of v i)) (cond b None (Some interface.list))
          go true e = listed ∙ ap (λ (n : ℕ). stages_in (kind_in (kind_of n)) (refs_from s c interface.list)) (eqb-true interface.kind 4 e)
          go false e = (
            listed ∙ kind_lists_lem interface.kind (refs_from s c interface.list) known.kind (eqb-false interface.kind 4 e),
            known.fits,
            entries-named s c interface.list c.stages (known.stages (eqb-false interface.kind 4 e)),
          )

    module _ (l : ℕ) (h : l < c.layers) where
      abbrev stages : Run
      stages = (layer_at s (layers_at c + 6 * l)).stages

      stages-named : (j : ℕ) → stages.first ≤ j → j < stages.first + stages.count → u16_at s (refs_at c + 2 * j) < c.stages
      stages-named j m n =
          let place : refs_at c + 2 * stages.first + 2 * (j - stages.first) ≡ refs_at c + 2 * j = omega arith in
          subst (λ (p : ℕ). u16_at s p < c.stages) place ((a.layers l h).named (j - stages.first) (omega arith))

      layer_lists : Listing s c (listed_by ByLayer v l) (list_at ByLayer s (layers_at c + 6 * l))
      layer_lists = (
        ap (λ (x : Layer). x.stages) (layer-at s c l h)
            ∙ sym (present_whole (λ k. u16_at s (refs_at c + 2 * k)) stages.first stages.count (λ j m n e. omega (arith, stages-named j m n, a.sized.stages))),
        (a.layers l h).fits,
        λ j m n o. stages-named j m n,
      )

    lists : (x : Lister) (k : ℕ) → k < count_of c (section_of x) → Listing s c (listed_by x v k) (list_at x s (place_of c (section_of x) k))
    lists ByInterface = interface_lists
    lists ByLayer = layer_lists

    -- what record k adds, as the code finds its list
    module _ (x : Lister) {y : Section} (e : y ≡ section_of x) (k : ℕ) (h : k < count_of c y) where
      within : k < count_of c (section_of x)
      within = subst (λ (z : Section). k < count_of c z) e h

      found : {o : Option Run} → o ≡ list_at x s (place_of c y k) → Listing s c (listed_by x v k) o
      found p = subst (Listing s c (listed_by x v k)) (sym (p ∙ ap (λ (z : Section). list_at x s (place_of c z k)) e)) (lists x k within)

      pub none_adds : None ≡ list_at x s (place_of c y k) → (counts : List ℕ) → (true ≡ own x k) × (counts ≡ tally (listed_by x v k) counts)
      unfolding all tally
      none_adds p counts = (sym (ap (all (has x k)) (found p)), sym (ap (λ (l : List ℕ). tally l counts) (found p)))

      module _ {run : Run} (p : Some run ≡ list_at x s (place_of c y k)) where
        pub list_named : (j : ℕ) → run.first ≤ j → j < run.first + run.count → NamedOrNone (u16_at s (refs_at c + 2 * j)) c.stages
        list_named = (found p).2

        pub list_adds : {owner : Owner} → owner ≡ owner_of x k → (counts : List ℕ) {r : Bool} {after : List ℕ}
            → r ≡ all (owner_is s c owner) (present (refs_from s c run)) → after ≡ tally (present (refs_from s c run)) counts
            → (r ≡ own x k) × (after ≡ tally (listed_by x v k) counts)
        list_adds o counts q t = (
          q ∙ ap (λ (w : Owner). all (owner_is s c w) (present (refs_from s c run))) o
              ∙ all_named (owner_is s c (owner_of x k)) (has x k) (λ j. u16_at s (refs_at c + 2 * j)) c.stages run.first run.count list_named (has_number x k)
              ∙ sym (ap (all (has x k)) (found p).0),
          t ∙ sym (ap (λ (l : List ℕ). tally l counts) (found p).0),
        )
