-- A step: document 01's tag, what its fields say, and how many ports it has.
use Rattle.std.specs.Prelude.{cond, List, [], ◌∷◌, ℕ, eqb, get_or, None, Option, Some}
use Rattle.vir.specs.declared.arity.Arity.{Arity}
use Rattle.vir.specs.declared.arity.Arity.TheVariants.{Exactly, AtLeast, AtMost}
use Rattle.vir.specs.declared.invocation.Invocation.{Invocation}
use Rattle.vir.specs.declared.invocation.Invocation.TheVariants.{Barrier, Read, Write, ReadBarrier, BarrierWrite, ReadWrite}
use Rattle.vir.specs.declared.step.Step.{Step}
use Rattle.vir.specs.declared.step.Step.TheVariants.{Invoke, Transfer, Diverge, Link, Call, Const, Composite, Rewrap, Enum, Union, Ref, List as Listing, String, InlineIvy, BoolNot, BoolAnd}
use Rattle.vir.specs.Ids.{none, layer_id_of}
use Rattle.vir.specs.Invocation.{invocation_number, invocation_ports}
use Rattle.vir.specs.declared.ids.InterfaceId.{InterfaceId}

-- tags 0 to 5 are the invocations, in their order
abbrev pub step_tag : Step → ℕ
step_tag (Invoke span local i) = invocation_number i
step_tag (Transfer interface) = 6
step_tag (Diverge layer onward) = 7
step_tag (Link key) = 8
step_tag (Call key) = 9
step_tag (Const key) = 10
step_tag (Composite key) = 11
step_tag (Rewrap key) = 12
step_tag (Enum key) = 13
step_tag (Union key) = 14
step_tag (Ref key) = 15
step_tag (Listing key) = 16
step_tag (String key) = 17
step_tag (InlineIvy key) = 18
step_tag (BoolNot key) = 19
step_tag (BoolAnd key) = 20

-- none means that there is no interface
abbrev pub onward_of : ℕ → Option InterfaceId
onward_of b = cond (eqb b none) None (Some (record { 0 = b }))

abbrev pub invoke : ℕ → ℕ → Invocation → Option Step
invoke a b i = Some (Invoke (record { 0 = a }) (record { 0 = b }) i)

-- in the order of the numbers
abbrev pub steps : ℕ → ℕ → List (Option Step)
steps a b =
    invoke a b Barrier ∷
    invoke a b Read ∷
    invoke a b Write ∷
    invoke a b ReadBarrier ∷
    invoke a b BarrierWrite ∷
    invoke a b ReadWrite ∷
    Some (Transfer (record { 0 = b })) ∷
    Some (Diverge (layer_id_of a) (onward_of b)) ∷
    Some (Link a) ∷
    Some (Call a) ∷
    Some (Const a) ∷
    Some (Composite a) ∷
    Some (Rewrap a) ∷
    Some (Enum a) ∷
    Some (Union a) ∷
    Some (Ref a) ∷
    Some (Listing a) ∷
    Some (String a) ∷
    Some (InlineIvy a) ∷
    Some (BoolNot a) ∷
    Some (BoolAnd a) ∷
    []

unfoldable pub step_of : ℕ → ℕ → ℕ → Option Step
step_of tag a b = get_or (steps a b) tag None

-- 0 or 1 of a transfer, 0 of a Diverge without one; then 2, 1+, 1, 1+, 2, 2, 2, 3, 1+, 1+, 1+, 2, 3
abbrev pub step_ports : Step → Arity
step_ports (Invoke span local i) = invocation_ports i
step_ports (Transfer interface) = AtMost 1
step_ports (Diverge layer (Some interface)) = AtMost 1
step_ports (Diverge layer None) = Exactly 0
step_ports (Link key) = Exactly 2
step_ports (Call key) = AtLeast 1
step_ports (Const key) = Exactly 1
step_ports (Composite key) = AtLeast 1
step_ports (Rewrap key) = Exactly 2
step_ports (Enum key) = Exactly 2
step_ports (Union key) = Exactly 2
step_ports (Ref key) = Exactly 3
step_ports (Listing key) = AtLeast 1
step_ports (String key) = AtLeast 1
step_ports (InlineIvy key) = AtLeast 1
step_ports (BoolNot key) = Exactly 2
step_ports (BoolAnd key) = Exactly 3

-- what an Invoke holds
pub record Invoked : Type 0 where
  pub span : ℕ
  pub local : ℕ
  pub invocation : Invocation

-- .. if a step is one
abbrev pub invoke_of : Step → List Invoked
invoke_of (Invoke span local i) = record { span = span.0; local = local.0; invocation = i } ∷ []
invoke_of (Transfer interface) = []
invoke_of (Diverge layer onward) = []
invoke_of (Link key) = []
invoke_of (Call key) = []
invoke_of (Const key) = []
invoke_of (Composite key) = []
invoke_of (Rewrap key) = []
invoke_of (Enum key) = []
invoke_of (Union key) = []
invoke_of (Ref key) = []
invoke_of (Listing key) = []
invoke_of (String key) = []
invoke_of (InlineIvy key) = []
invoke_of (BoolNot key) = []
invoke_of (BoolAnd key) = []
