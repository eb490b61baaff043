-- The layer rules together, by what the code finds out in turn.
use mathlib.Core.Path.{◌≡◌, ◌∙◌, sym, ap}
use mathlib.Core.Bool.{Bool, true, false, ◌&&◌, ◌||◌}
use mathlib.Core.List.{List}
use Prim.Native.Nat.{ℕ}
use native.Mathlib.Omega.{arith}
use lib.Dec.{eqb}
use lib.ListN.{length, get_or}
use Rattle.vir.specs.Ids.{none}
use Rattle.records.specs.declared.layout.Counts.{Counts}
use Rattle.records.specs.Every.{every}
use Rattle.image.specs.Kind.{concat, occurrences}
use Rattle.image.specs.LayerRules.{parents_below, listed_by_own_layer, listed_once, interfaces_lie, entered_from_parent, entered_once, diverges_out, entries, layer_rules}
use Rattle.records.specs.Layout.{Sized}
use Rattle.image.specs.Tally.{tally, counted_at}
use Rattle.image.specs.View.{view_of}
use Rattle.image.specs.Vir.{Vir, layer_of}
use Rattle.image.proofs.Entered.{entered_once_lem}
use Rattle.image.proofs.Tallies.{zeros, counted_once}
use Rattle.image.proofs.Viewing.{length-layers, length-stages}

abbrev seven : Bool → Bool → Bool → Bool → Bool → Bool → Bool → Bool
seven a b c d e f g = a && b && c && d && e && f && g

module _ (v : Vir) where
  pub rule_parents : parents_below v ≡ false → false ≡ layer_rules v
  unfolding layer_rules
  rule_parents a =
      sym
      (λ i. seven (a i) (listed_by_own_layer v) (listed_once v) (interfaces_lie v) (entered_from_parent v) (entered_once v) (diverges_out v))

  module _ (a : parents_below v ≡ true) where
    pub rule_own : listed_by_own_layer v ≡ false → false ≡ layer_rules v
    unfolding layer_rules
    rule_own b = sym (λ i. seven (a i) (b i) (listed_once v) (interfaces_lie v) (entered_from_parent v) (entered_once v) (diverges_out v))

    module _ (b : listed_by_own_layer v ≡ true) where
      pub rule_once : listed_once v ≡ false → false ≡ layer_rules v
      unfolding layer_rules
      rule_once c = sym (λ i. seven (a i) (b i) (c i) (interfaces_lie v) (entered_from_parent v) (entered_once v) (diverges_out v))

      module _ (c : listed_once v ≡ true) where
        pub rule_lie : interfaces_lie v ≡ false → false ≡ layer_rules v
        unfolding layer_rules
        rule_lie d = sym (λ i. seven (a i) (b i) (c i) (d i) (entered_from_parent v) (entered_once v) (diverges_out v))

        module _ (d : interfaces_lie v ≡ true) where
          pub rule_parent : entered_from_parent v ≡ false → false ≡ layer_rules v
          unfolding layer_rules
          rule_parent e = sym (λ i. seven (a i) (b i) (c i) (d i) (e i) (entered_once v) (diverges_out v))

          module _ (e : entered_from_parent v ≡ true) where
            pub rule_entered : entered_once v ≡ false → false ≡ layer_rules v
            unfolding layer_rules
            rule_entered f = sym (λ i. seven (a i) (b i) (c i) (d i) (e i) (f i) (diverges_out v))

            pub rule_diverges : {r : Bool} → entered_once v ≡ true → r ≡ diverges_out v → r ≡ layer_rules v
            unfolding layer_rules
            rule_diverges f g = g ∙ sym (λ i. seven (a i) (b i) (c i) (d i) (e i) (f i) (diverges_out v))

-- counted as the code counts
module _ (s : List ℕ) (c : Counts) (z : Sized s c) where
  pub once_counted : (counts : List ℕ) → counts ≡ tally (concat (λ l. l.stages) (view_of s c).layers) zeros
      → listed_once (view_of s c) ≡ every c.stages (counted_at counts 1)
  once_counted counts e =
      ap (λ (n : ℕ). every n (λ t. eqb (occurrences t (concat (λ l. l.stages) (view_of s c).layers)) 1)) (length-stages s c)
      ∙ sym (counted_once c.stages (concat (λ l. l.stages) (view_of s c).layers) z.stages)
      ∙ sym (ap (λ (l : List ℕ). every c.stages (counted_at l 1)) e)

  pub entered-counted : (counts : List ℕ) → counts ≡ tally (concat (entries (view_of s c)) (view_of s c).stages) zeros
      → entered_once (view_of s c)
      ≡ every (length (view_of s c).layers) (λ l. eqb (layer_of (view_of s c) l).parent none || eqb (get_or counts l 0) 1)
  entered-counted counts e =
      sym
      (ap (λ (l : List ℕ). every (length (view_of s c).layers) (λ k. eqb (layer_of (view_of s c) k).parent none || eqb (get_or l k 0) 1)) e
      ∙ entered_once_lem (view_of s c) (concat (entries (view_of s c)) (view_of s c).stages) (length (view_of s c).layers)
      (omega (arith, length-layers s c, z.layers)))
