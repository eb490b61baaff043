-- What a tag and its fields were written from is what is found by them.
use Rattle.std.specs.Prelude.{None, Option, Some}
use mathlib.Core.Path.{◌≡◌, refl, ap}
use mathlib.Core.Bool.{Bool, true, cond}
use Prim.Native.Nat.{min}
use native.Mathlib.Nat.{min-eq_left}
use lib.Dec.{eqb, leb}
use borrow.Author.Tests.{leb-true, not-true}
use Rattle.vir.specs.declared.header.Header.{Header}
use Rattle.vir.specs.declared.header.Header.TheVariants.{Bare, Const as ConstHeader, Fn, Match as MatchHeader, Closure as ClosureHeader, Fork, Drop, Entry}
use Rattle.vir.specs.declared.interface.InterfaceKind.{InterfaceKind}
use Rattle.vir.specs.declared.interface.InterfaceKind.TheVariants.{Unconditional, Branch, Match, Closure, Inspect}
use Rattle.vir.specs.declared.invocation.Invocation.TheVariants.{Barrier, Read, Write, ReadBarrier, BarrierWrite, ReadWrite}
use Rattle.vir.specs.declared.port.PortKind.{PortKind}
use Rattle.vir.specs.declared.port.PortKind.TheVariants.{Nil, Bool as BoolPort, N32, F32, F64, Nat, Wire, Error}
use Rattle.vir.specs.declared.step.Step.{Step}
use Rattle.vir.specs.declared.step.Step.TheVariants.{Invoke, Transfer, Diverge, Link, Call, Const, Composite, Rewrap, Enum, Union, Ref, List as Listing, String, InlineIvy, BoolNot, BoolAnd}
use Rattle.vir.specs.Header.{header_of, header_number}
use Rattle.vir.specs.Ids.{none}
use Rattle.vir.specs.Interface.{kind_of, kind_number}
use Rattle.vir.specs.Port.{port_of, port_number}
use Rattle.vir.specs.Step.{step_of, step_tag, onward_of}
use Rattle.image.specs.Encode.{step_a, step_b, onward_b, port_a, port_b, plain_onward, plain_step}
use Rattle.records.proofs.Guards.{left_true, right_true}
use Rattle.vir.specs.declared.ids.InterfaceId.{InterfaceId}

pub kind_found_lem : (k : InterfaceKind) → kind_of (kind_number k) ≡ Some k
unfolding kind_of
kind_found_lem Unconditional = refl
kind_found_lem Branch = refl
kind_found_lem Match = refl
kind_found_lem Closure = refl
kind_found_lem Inspect = refl

pub header_found : (h : Header) → header_of (header_number h) ≡ Some h
unfolding header_of
header_found Bare = refl
header_found ConstHeader = refl
header_found Fn = refl
header_found MatchHeader = refl
header_found ClosureHeader = refl
header_found Fork = refl
header_found Drop = refl
header_found Entry = refl

pub port_found : (p : PortKind) → port_of (port_number p) (port_a p) (port_b p) ≡ Some p
unfolding port_of
port_found (Nil a) = refl
port_found (BoolPort a) = refl
port_found (N32 a) = refl
port_found (F32 a) = refl
port_found (F64 a) = refl
port_found (Nat a) = refl
port_found (Wire span w) = refl
port_found (Error a) = refl

onward_found : (o : Option InterfaceId) → plain_onward o ≡ true → onward_of (onward_b o) ≡ o
onward_found (Some i) h = ap (λ (b : Bool). cond b None (Some i)) (not-true (eqb i.0 none) h)
onward_found None h = refl

pub step_found : (t : Step) → plain_step t ≡ true → step_of (step_tag t) (step_a t) (step_b t) ≡ Some t
unfolding step_of
step_found (Invoke span l Barrier) h = refl
step_found (Invoke span l Read) h = refl
step_found (Invoke span l Write) h = refl
step_found (Invoke span l ReadBarrier) h = refl
step_found (Invoke span l BarrierWrite) h = refl
step_found (Invoke span l ReadWrite) h = refl
step_found (Transfer i) h = refl
step_found (Diverge l o) h =
    let small : leb l.0 none ≡ true = left_true (leb l.0 none) (plain_onward o) h in
    let layer : min l.0 none ≡ l.0 = min-eq_left (leb-true l.0 none small) in
    let onward : onward_of (onward_b o) ≡ o = onward_found o (right_true (leb l.0 none) (plain_onward o) h) in
    λ i. Some (Diverge (record { 0 = layer i }) (onward i))
step_found (Link k) h = refl
step_found (Call k) h = refl
step_found (Const k) h = refl
step_found (Composite k) h = refl
step_found (Rewrap k) h = refl
step_found (Enum k) h = refl
step_found (Union k) h = refl
step_found (Ref k) h = refl
step_found (Listing k) h = refl
step_found (String k) h = refl
step_found (InlineIvy k) h = refl
step_found (BoolNot k) h = refl
step_found (BoolAnd k) h = refl
