-- The kind, from what the code finds out in turn.
use mathlib.Core.Path.{◌≡◌, ◌∙◌, refl, sym, ap}
use mathlib.Core.Bool.{Bool, true, false, cond, ◌&&◌}
use mathlib.Core.List.{List}
use Prim.Native.Nat.{ℕ}
use native.Mathlib.Omega.{arith}
use lib.Dec.{eqb, ltb}
use lib.ListN.{length}
use borrow.Author.Tests.{lt-ltb, le-ltb, eq-eqb}
use Rattle.std.specs.Prelude.{Option}
use Rattle.std.specs.Bool.{then_some}
use Rattle.vir.specs.Ids.{none}
use Rattle.records.specs.declared.layout.Counts.{Counts}
use Rattle.records.specs.Every.{every}
use Rattle.image.specs.declared.answer.Kind.{Kind}
use Rattle.image.specs.declared.answer.Kind.TheVariants.{Flat}
use Rattle.image.specs.Answer.{kind_number}
use Rattle.image.specs.Kind.{concat, occurrences, stages_of, listed, listed_by_own, flat, layered, kind_of_vir}
use Rattle.records.specs.Layout.{Sized}
use Rattle.image.specs.Tally.{tally, counted_at}
use Rattle.image.specs.View.{view_of}
use Rattle.image.specs.Vir.{Vir, stage_of}
use Rattle.image.proofs.Tallies.{zeros, counted_any}
use Rattle.image.proofs.Viewing.{length-layers, length-stages}

-- the kind by its four tests
abbrev kind_by : Bool → Bool → Bool → Bool → ℕ
kind_by own list lay flat = cond (own && list) (cond lay 2 (cond flat 1 0)) 0

flat_number : (b : Bool) → kind_number (then_some b Flat) ≡ cond b 1 0
flat_number true = refl
flat_number false = refl

module _ (s : List ℕ) (c : Counts) where
  abbrev v : Vir
  v = view_of s c

  pub kind_unowned : listed_by_own v ≡ false → 0 ≡ kind_of_vir v
  unfolding kind_of_vir
  kind_unowned h = sym (ap (λ (a : Bool). kind_by a (listed v) (layered v) (flat v)) h)

  -- counted as the code counts
  pub listed-counted : Sized s c → (counts : List ℕ) → counts ≡ tally (concat stages_of v.interfaces) zeros
      → listed v ≡ every c.stages (counted_at counts 2)
  listed-counted z counts e =
      ap (λ (n : ℕ). every n (λ t. ltb 0 (occurrences t (concat stages_of v.interfaces)))) (length-stages s c)
      ∙ sym (counted_any c.stages (concat stages_of v.interfaces) z.stages)
      ∙ sym (ap (λ (l : List ℕ). every c.stages (counted_at l 2)) e)

  module _ (own : listed_by_own v ≡ true) where
    pub kind_unlisted : listed v ≡ false → 0 ≡ kind_of_vir v
    unfolding kind_of_vir
    kind_unlisted h = sym (λ i. kind_by (own i) (h i) (layered v) (flat v))

    module _ (list : listed v ≡ true) where
      pub kind-layered : (c.layers ≡ 0 → ⊥) → 2 ≡ kind_of_vir v
      unfolding kind_of_vir
      kind-layered h =
          let lay : layered v ≡ true = lt-ltb 0 (length v.layers) (omega (arith, length-layers s c)) in
          sym (λ i. kind_by (own i) (list i) (lay i) (flat v))

      pub kind-flat : {b : Bool} {k : Option Kind} → c.layers ≡ 0 → b ≡ every (length v.stages) (λ t. eqb (stage_of v t).transfer none)
          → k ≡ then_some b Flat → kind_number k ≡ kind_of_vir v
      unfolding kind_of_vir
      kind-flat {b} h e t =
          let lay : layered v ≡ false = le-ltb 0 (length v.layers) (omega (arith, length-layers s c)) in
          let bare : eqb (length v.layers) 0 ≡ true = eq-eqb (length v.layers) 0 (length-layers s c ∙ h) in
          let whole : flat v ≡ b = ap (λ (x : Bool). x && every (length v.stages) (λ t. eqb (stage_of v t).transfer none)) bare ∙ sym e in
          ap kind_number t ∙ flat_number b ∙ sym (λ i. kind_by (own i) (list i) (lay i) (whole i))
