-- A well-formed value is read back from its bytes: a Diverge names a layer, and an interface that is not none.
use Rattle.std.specs.Prelude.{None, Option, Some}
use mathlib.Core.Path.{◌≡◌, refl}
use mathlib.Core.Bool.{Bool as Truth, true, not, ◌&&◌}
use mathlib.Core.List.{List, [], ◌∷◌}
use Prim.Native.Nat.{◌<◌, ◌≤◌}
use native.Mathlib.Omega.{arith}
use lib.Dec.{ltb}
use lib.ListN.{length}
use borrow.Author.Tests.{ltb-true, le-leb, ne_eqb}
use Rattle.vir.specs.declared.step.Step.{Step}
use Rattle.vir.specs.declared.step.Step.TheVariants.{Invoke, Transfer, Diverge, Link, Call, Const, Composite, Rewrap, Enum, Union, Ref, List as Listing, String, InlineIvy, BoolNot, BoolAnd}
use Rattle.vir.specs.Arity.{allows}
use Rattle.vir.specs.Ids.{none}
use Rattle.vir.specs.Step.{step_ports}
use Rattle.records.specs.declared.layout.Counts.{Counts}
use Rattle.records.specs.Layout.{Sized}
use Rattle.records.proofs.Guards.{left_true, right_true}
use Rattle.image.specs.Encode.{encode, counts_of_vir, all_actions, plain_onward, plain_step, Plain}
use Rattle.image.specs.Kind.{all}
use Rattle.image.specs.Vir.{Vir}
use Rattle.image.proofs.Answering.{within-sized}
use Rattle.image.proofs.Reading.{encode-length}
use Rattle.wellformed.specs.WellFormed.{onward_fits, step_fits, action_fits, WellFormed}
use Rattle.vir.specs.declared.ids.InterfaceId.{InterfaceId}

-- its bytes are as many as its counts say, which are within their maxima
pub fitting : (v : Vir) → WellFormed v → Sized (encode v) (counts_of_vir v)
fitting v w = within-sized (encode v) (counts_of_vir v) w.counted (encode-length v)

all_map : {A : Type 0} (f g : A → Truth) → ((x : A) → f x ≡ true → g x ≡ true) → (l : List A) → all f l ≡ true → all g l ≡ true
unfolding all
all_map f g on [] h = refl
all_map f g on (x ∷ l) h =
    let first = on x (left_true (f x) (all f l) h) in
    let rest = all_map f g on l (right_true (f x) (all f l) h) in
    λ i. first i && rest i

module _ (c : Counts) (few : c.layers ≤ 64) (few-interfaces : c.interfaces ≤ 256) where
  plain_onward_lem : (o : Option InterfaceId) → onward_fits c o ≡ true → plain_onward o ≡ true
  plain_onward_lem (Some t) h =
      let below : t.0 < c.interfaces = ltb-true t.0 c.interfaces h in
      let some = ne_eqb t.0 none (λ e. omega arith) in
      λ i. not (some i)
  plain_onward_lem None h = refl

  pub plain_step_lem : (t : Step) → step_fits c t ≡ true → plain_step t ≡ true
  plain_step_lem (Invoke span l t) h = refl
  plain_step_lem (Transfer t) h = refl
  plain_step_lem (Diverge l o) h =
      let below : l.0 < c.layers = ltb-true l.0 c.layers (left_true (ltb l.0 c.layers) (onward_fits c o) h) in
      let layer = le-leb l.0 none (omega arith) in
      let onward = plain_onward_lem o (right_true (ltb l.0 c.layers) (onward_fits c o) h) in
      λ i. layer i && onward i
  plain_step_lem (Link k) h = refl
  plain_step_lem (Call k) h = refl
  plain_step_lem (Const k) h = refl
  plain_step_lem (Composite k) h = refl
  plain_step_lem (Rewrap k) h = refl
  plain_step_lem (Enum k) h = refl
  plain_step_lem (Union k) h = refl
  plain_step_lem (Ref k) h = refl
  plain_step_lem (Listing k) h = refl
  plain_step_lem (String k) h = refl
  plain_step_lem (InlineIvy k) h = refl
  plain_step_lem (BoolNot k) h = refl
  plain_step_lem (BoolAnd k) h = refl

pub plain : (v : Vir) → WellFormed v → Plain v
plain v w =
    let c : Counts = counts_of_vir v in
    let z : Sized (encode v) c = fitting v w in
    all_map (action_fits c) (λ a. plain_step a.step)
    (λ a h. plain_step_lem c z.layers z.interfaces a.step
    (right_true (allows (step_ports a.step) (length a.ports)) (step_fits c a.step) h))
    (all_actions v) w.actions
