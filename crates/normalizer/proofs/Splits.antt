-- Where a stage is split: what is entered there, and the pieces that it leaves.
use mathlib.Core.Path.{◌≡◌, ◌∙◌, refl, sym, ap}
use mathlib.Core.Bool.{Bool, true, false}
use mathlib.Core.List.Memᴰ
use mathlib.Core.List.{Memᴰ}
use Prim.Native.Nat.{ℕ, ◌<◌}
use native.Mathlib.Omega.{arith}
use lib.Dec.{leb}
use lib.ListN.{length}
use borrow.Author.Tests.{eq-eqb, leb-true}
use Rattle.vir.specs.declared.step.Step.{Step}
use Rattle.vir.specs.declared.step.Step.TheVariants.{Invoke, Transfer, Diverge, Link, Call, Const, Composite, Rewrap, Enum, Union, Ref, List as Listing, String, InlineIvy, BoolNot, BoolAnd}
use Rattle.vir.specs.Ids.{none}
use Rattle.image.specs.LayerRules.{transfer_to}
use Rattle.image.specs.Loops.{each}
use Rattle.image.specs.Vir.{Action, Stage, Vir}
use Rattle.image.proofs.Climbing.{parent_of}
use Rattle.normalizer.specs.Divergence.{sub_layer, step_divergence}
use Rattle.normalizer.specs.Normalize.{Jumped, Normalizer, Piece, Split, carry, jump, new_stage, push_piece, push_steps, put_stage, set_final, split_at}

-- the step that enters an interface is a Transfer to it
enters_transfer : (s : Step) {i : ℕ} → Memᴰ i (transfer_to s) → s ≡ Transfer (record { 0 = i })
enters_transfer (Invoke span l k) m = absurd (Memᴰ.not-nil m)
enters_transfer (Transfer k) m = λ j. Transfer (record { 0 = sym (Memᴰ.eq_of_singleton m) j })
enters_transfer (Diverge l o) m = absurd (Memᴰ.not-nil m)
enters_transfer (Link k) m = absurd (Memᴰ.not-nil m)
enters_transfer (Call k) m = absurd (Memᴰ.not-nil m)
enters_transfer (Const k) m = absurd (Memᴰ.not-nil m)
enters_transfer (Composite k) m = absurd (Memᴰ.not-nil m)
enters_transfer (Rewrap k) m = absurd (Memᴰ.not-nil m)
enters_transfer (Enum k) m = absurd (Memᴰ.not-nil m)
enters_transfer (Union k) m = absurd (Memᴰ.not-nil m)
enters_transfer (Ref k) m = absurd (Memᴰ.not-nil m)
enters_transfer (Listing k) m = absurd (Memᴰ.not-nil m)
enters_transfer (String k) m = absurd (Memᴰ.not-nil m)
enters_transfer (InlineIvy k) m = absurd (Memᴰ.not-nil m)
enters_transfer (BoolNot k) m = absurd (Memᴰ.not-nil m)
enters_transfer (BoolAnd k) m = absurd (Memᴰ.not-nil m)

-- a stage is split only where a layer with a parent is entered
pub split_enters : (v : Vir) (f : ℕ → ℕ) (s : Step) {i l : ℕ} → Memᴰ i (transfer_to s) → leb (step_divergence f v s) l ≡ true → l < none
    → parent_of v (sub_layer v i) ≡ none → ⊥
unfolding each
split_enters v f s {i} {l} m h k e =
    let far : step_divergence f v s ≡ none =
    ap (step_divergence f v) (enters_transfer s m)
    ∙ ap (λ (b : Bool). elim b [ true ↦ none | false ↦ f (sub_layer v i) ]) (eq-eqb _ _ e) in
    omega (arith, leb-true (step_divergence f v s) l h)

-- the piece that goes on behind a split, given what the step left
abbrev pub resumed : Piece → Split → Jumped → Piece
resumed p s j = record {
  normalizer = put_stage p.id (push_steps j.steps s.old) j.normalizer;
  id = length p.normalizer.stages;
  stage = s.new;
  open_wires = p.open_wires;
}

module _ (v : Vir) where
  -- what `match step` leaves, by the interface that the step enters
  abbrev pub entered : (ℕ → Normalizer → Normalizer) → ℕ → Step → Normalizer → Normalizer
  entered deep interface s n = each (λ i n. deep (sub_layer v i) (set_final (sub_layer v i) interface n)) (transfer_to s) n

  pub jump-is : (deep : ℕ → Normalizer → Normalizer) (interface : ℕ) (a : Action) (s : Step) (n : Normalizer)
      → jump v deep interface a s n ≡ record { normalizer = entered deep interface s n; steps = (jump v (λ m n. n) interface a s n).steps }
  unfolding each
  jump-is deep interface a (Invoke span l i) n = refl
  jump-is deep interface a (Transfer i) n = refl
  jump-is deep interface a (Diverge l o) n = refl
  jump-is deep interface a (Link k) n = refl
  jump-is deep interface a (Call k) n = refl
  jump-is deep interface a (Const k) n = refl
  jump-is deep interface a (Composite k) n = refl
  jump-is deep interface a (Rewrap k) n = refl
  jump-is deep interface a (Enum k) n = refl
  jump-is deep interface a (Union k) n = refl
  jump-is deep interface a (Ref k) n = refl
  jump-is deep interface a (Listing k) n = refl
  jump-is deep interface a (String k) n = refl
  jump-is deep interface a (InlineIvy k) n = refl
  jump-is deep interface a (BoolNot k) n = refl
  jump-is deep interface a (BoolAnd k) n = refl

  -- where a stage is split: it and the new one, with the locals that carry the open wires
  abbrev pub prepared : Stage → Piece → Split
  prepared source p =
      each (carry v.types) p.open_wires
      (record { normalizer = push_piece p.normalizer; old = p.stage; new = new_stage source (length p.normalizer.interfaces) })

  pub split-is : (deep : ℕ → Normalizer → Normalizer) (source : Stage) (a : Action) (p : Piece)
      → split_at v deep source a p
      ≡ resumed p (prepared source p)
      (record {
        normalizer = entered deep (length p.normalizer.interfaces) a.step (prepared source p).normalizer;
        steps = (jump v (λ m n. n) (length p.normalizer.interfaces) a a.step (prepared source p).normalizer).steps;
      })
  split-is deep source a p =
      ap (resumed p (prepared source p)) (jump-is deep (length p.normalizer.interfaces) a a.step (prepared source p).normalizer)
