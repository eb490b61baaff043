-- A good record's tag and fields come back from what they name.
use Rattle.std.specs.Prelude.{None, Option, Some}
use mathlib.Core.Path.{◌≡◌, refl, sym, subst}
use mathlib.Core.Bool.{Bool, true, false, cond, ◌&&◌, ◌||◌, true≢false}
use Prim.{tt}
use Prim.Native.Nat.{ℕ, ◌≤◌, ◌<◌, min}
use native.Mathlib.Nat.{zero-add, min-eq_left}
use native.Mathlib.Omega.{arith}
use lib.Dec.{eqb, ltb, leb}
use borrow.Author.Tests.{eqb-true, ltb-true, leb-true}
use Rattle.vir.proofs.Numbered.{kind_number_lem, header_number_lem, step-tag}
use Rattle.vir.specs.Header.{header_of, header_number}
use Rattle.vir.specs.Ids.{none}
use Rattle.vir.specs.Interface.{kind_of, kind_number}
use Rattle.vir.specs.Port.{port_of, port_number, ports}
use Rattle.vir.specs.Step.{step_of, step_tag, steps, onward_of}
use Rattle.records.specs.declared.layout.Counts.{Counts}
use Rattle.records.specs.declared.record.Run.{Run}
use Rattle.image.specs.Encode.{step_a, step_b, onward_b, port_a, port_b}
use Rattle.rules.specs.Faults.{or_none, kind_lists, header_has, step_has, step_named}
use Rattle.rules.proofs.Cases.{◌▸◌, each_at}
use Rattle.image.specs.View.{kind_in, header_in, step_in, port_in}
use Rattle.records.proofs.Guards.{left_true}
use Rattle.vir.specs.declared.port.PortKind.{PortKind}
use Rattle.vir.specs.declared.interface.InterfaceKind.{InterfaceKind}
use Rattle.vir.specs.declared.header.Header.{Header}
use Rattle.vir.specs.declared.step.Step.{Step}

pub kind_back : (n m : ℕ) → kind_lists (kind_of n) m ≡ true → n ≡ kind_number (kind_in (kind_of n))
kind_back n m = go (kind_of n) refl
  where
    go : (k : Option InterfaceKind) → kind_of n ≡ k → kind_lists k m ≡ true → n ≡ kind_number (kind_in k)
    go (Some k) e h = sym (kind_number_lem n k e)
    go None e h = absurd (true≢false (sym h))

pub header_back : (n m : ℕ) → header_has (header_of n) m ≡ true → n ≡ header_number (header_in (header_of n))
header_back n m = go (header_of n) refl
  where
    go : (k : Option Header) → header_of n ≡ k → header_has k m ≡ true → n ≡ header_number (header_in k)
    go (Some k) e h = sym (header_number_lem n k e)
    go None e h = absurd (true≢false (sym h))

pub step_back : (n a b m : ℕ) → step_has (step_of n a b) m ≡ true → n ≡ step_tag (step_in (step_of n a b))
step_back n a b m = go (step_of n a b) refl
  where
    go : (k : Option Step) → step_of n a b ≡ k → step_has k m ≡ true → n ≡ step_tag (step_in k)
    go (Some k) e h = sym (step-tag n a b k e)
    go None e h = absurd (true≢false (sym h))

onward_back : (b : ℕ) → onward_b (onward_of b) ≡ b
onward_back b = go (eqb b none) refl
  where
    go : (t : Bool) → eqb b none ≡ t → onward_b (cond t None (Some (record { 0 = b }))) ≡ b
    go true e = sym (eqb-true b none e)
    go false e = refl

module _ (c : Counts) (few : c.layers ≤ 64) (a b : ℕ) (run : Run) where
  -- a step with the tag n that names what is there has a and b
  abbrev pub StepFields : ℕ → Option Step → Type 0
  StepFields n x =
      step_has x run.count ≡ true → step_named c (record { tag = n; a = a; b = b; ports = run }) ≡ true
      → (a ≡ step_a (step_in x)) × (b ≡ step_b (step_in x))

  -- an Invoke has both, a Transfer no a, and a key no b
  both : {B C : Type 0} → B → C → (a ≡ a) × (b ≡ b)
  both h n = (refl, refl)

  transfer : {B : Type 0} → B → (eqb a 0 && ltb b c.interfaces) ≡ true → (a ≡ 0) × (b ≡ b)
  transfer h n = (eqb-true a 0 (left_true (eqb a 0) _ n), refl)

  -- the target is a layer, so it is below none
  diverge : {B : Type 0} → B → (ltb a c.layers && or_none c.interfaces b) ≡ true → (a ≡ min a none) × (b ≡ onward_b (onward_of b))
  diverge h n =
      let below : a < c.layers = ltb-true a c.layers (left_true (ltb a c.layers) _ n) in
      (sym (min-eq_left (omega arith)), sym (onward_back b))

  key : {B : Type 0} → B → eqb b 0 ≡ true → (a ≡ a) × (b ≡ 0)
  key h n = (refl, eqb-true b 0 n)

  pub step_fields_lem : (n : ℕ) → StepFields n (step_of n a b)
  unfolding step_of
  step_fields_lem n =
      subst (λ (k : ℕ). StepFields k (step_of n a b)) (zero-add n)
      (each_at StepFields 0 (steps a b) None
      (both ▸ both ▸ both ▸ both ▸ both ▸ both ▸ transfer ▸ diverge
      ▸ key ▸ key ▸ key ▸ key ▸ key ▸ key ▸ key ▸ key ▸ key ▸ key ▸ key ▸ key ▸ key ▸ tt)
      (λ i p h. absurd (true≢false (sym h)))
      n)

module _ (a b : ℕ) where
  -- a port of the kind n with no b but a wire's has the kind, a and b
  abbrev pub PortFields : ℕ → Option PortKind → Type 0
  PortFields n x =
      leb n 7 ≡ true → (eqb n 6 || eqb b 0) ≡ true
      → (n ≡ port_number (port_in x)) × (a ≡ port_a (port_in x)) × (b ≡ port_b (port_in x))

  -- any but a wire
  plain : {B : Type 0} {n : ℕ} → B → eqb b 0 ≡ true → (n ≡ n) × (a ≡ a) × (b ≡ 0)
  plain h n = (refl, refl, eqb-true b 0 n)

  wire : {B C : Type 0} {n : ℕ} → B → C → (n ≡ n) × (a ≡ a) × (b ≡ b)
  wire h n = (refl, refl, refl)

  pub port_fields : (n : ℕ) → PortFields n (port_of n a b)
  unfolding port_of
  port_fields n =
      subst (λ (k : ℕ). PortFields k (port_of n a b)) (zero-add n)
      (each_at PortFields 0 (ports a b) None
      (plain ▸ plain ▸ plain ▸ plain ▸ plain ▸ plain ▸ wire ▸ plain ▸ tt)
      (λ i p h. absurd (let z : i ≤ 7 = leb-true i 7 h in omega arith))
      n)
