-- The layers that steps enter, in the view and in the bytes.
use mathlib.Core.Path.{◌≡◌, ◌∙◌, refl, ap, subst}
use mathlib.Core.Bool.{Bool, true, false, ◌||◌}
use mathlib.Core.List.{List}
use Prim.Native.Nat.{ℕ, ◌+◌, ◌*◌, ◌<◌, ◌≤◌, min}
use native.Mathlib.Omega.{arith}
use lib.Dec.{eqb, ltb}
use lib.ListN.{length, get_or}
use borrow.Author.Tests.{eq-eqb, ne_eqb, eqb-true, eqb-false, ltb-true}
use Rattle.vir.specs.declared.ids.InterfaceId.{InterfaceId}
use Rattle.vir.specs.declared.step.Step.TheVariants.{Transfer}
use Rattle.vir.specs.Ids.{none}
use Rattle.records.specs.declared.layout.Counts.{Counts}
use Rattle.records.specs.declared.record.InterfaceRecord.{InterfaceRecord}
use Rattle.image.specs.Accepted.{Accepted}
use Rattle.image.specs.Entering.{action_at}
use Rattle.records.specs.Every.{every}
use Rattle.image.specs.Kind.{occurrences}
use Rattle.image.specs.LayerRules.{interfaces_lie, transfer_to}
use Rattle.records.specs.Layout.{interfaces_at}
use Rattle.records.specs.Records.{interface_at}
use Rattle.image.specs.Tally.{tally}
use Rattle.image.specs.View.{view_of}
use Rattle.image.specs.Vir.{Vir, layer_of, interface_of}
use Rattle.records.proofs.Every.{every-at, every_cong}
use Rattle.image.proofs.Fields.{lies_read}
use Rattle.image.proofs.Steps.{transfer_named}
use Rattle.image.proofs.Tallies.{zeros, from_nothing}
use Rattle.image.proofs.Viewing.{length-layers, length-interfaces}

module _ (s : List ℕ) (c : Counts) where
  -- an interface's layer exists
  pub interface_lies : interfaces_lie (view_of s c) ≡ true → (i : ℕ) {x : InterfaceRecord} → i < c.interfaces
      → x ≡ interface_at s (interfaces_at c + 9 * i) → x.layer.0 < c.layers
  interface_lies lie i h p =
      let passed : (interface_of (view_of s c) i).layer < length (view_of s c).layers =
      ltb-true _ _
      (every-at (λ (k : ℕ). ltb (interface_of (view_of s c) k).layer (length (view_of s c).layers)) _ i lie (omega (arith, length-interfaces s c))) in
      omega (arith, lies_read s c i h p, length-layers s c)

  -- .. and so does the interface that a step enters
  pub transfer_inside : Accepted s c → (k : ℕ) {i : InterfaceId} → k < c.steps → (action_at s c k).step ≡ Transfer i → i.0 < c.interfaces
  transfer_inside a k h e =
      let named = transfer_named _ _ _ (ap transfer_to e) in
      subst (λ (n : ℕ). n < c.interfaces) named.1 ((a.steps k h).interface named.0)

-- what an entered layer's record needs
pub ruleset entering = (lies_read, interface_lies, transfer_inside)

-- a count up to two is one where the number stands in the list once
once : (n : ℕ) → eqb (min 2 n) 1 ≡ eqb n 1
once n = go (eqb n 1) refl
  where
    go : (b : Bool) → eqb n 1 ≡ b → eqb (min 2 n) 1 ≡ b
    go true e = let one : n ≡ 1 = eqb-true n 1 e in eq-eqb (min 2 n) 1 (omega arith)
    go false e = let other : n ≡ 1 → ⊥ = eqb-false n 1 e in ne_eqb (min 2 n) 1 (λ z. other (omega arith))

-- layers that are counted once, from nothing, are entered once
pub entered_once_lem : (v : Vir) (xs : List ℕ) (n : ℕ) → n ≤ 256
    → every n (λ l. eqb (layer_of v l).parent none || eqb (get_or (tally xs zeros) l 0) 1)
    ≡ every n (λ l. eqb (layer_of v l).parent none || eqb (occurrences l xs) 1)
entered_once_lem v xs n room =
    every_cong _ _ n
    (λ l h. ap (λ (b : Bool). eqb (layer_of v l).parent none || b) (ap (λ (k : ℕ). eqb k 1) (from_nothing n xs room l h) ∙ once (occurrences l xs)))
