use Rattle.std.specs.Prelude.{None, Some}
use mathlib.Core.Path.{◌∙◌, sym, ap}
use lib.ListN.{get_or-eq_default}
use Prim.Native.Nat.{ℕ}
use Rattle.vir.proofs.Arms.{past}
use Rattle.vir.specs.declared.step.Step.TheVariants.{Diverge}
use Rattle.vir.specs.Step.{step_of, steps}
use Rattle.vir.proofs.step.Step.from_fields.Goals as goal

pub returns-in-0 : goal.returns-in-0
unfolding step_of
returns-in-0 c = sym (ap (λ (n : ℕ). step_of n c.args.a c.args.b) c.in-0.is)

pub returns-in-1 : goal.returns-in-1
unfolding step_of
returns-in-1 c = sym (ap (λ (n : ℕ). step_of n c.args.a c.args.b) c.in-1.is)

pub returns-in-2 : goal.returns-in-2
unfolding step_of
returns-in-2 c = sym (ap (λ (n : ℕ). step_of n c.args.a c.args.b) c.in-2.is)

pub returns-in-3 : goal.returns-in-3
unfolding step_of
returns-in-3 c = sym (ap (λ (n : ℕ). step_of n c.args.a c.args.b) c.in-3.is)

pub returns-in-4 : goal.returns-in-4
unfolding step_of
returns-in-4 c = sym (ap (λ (n : ℕ). step_of n c.args.a c.args.b) c.in-4.is)

pub returns-in-5 : goal.returns-in-5
unfolding step_of
returns-in-5 c = sym (ap (λ (n : ℕ). step_of n c.args.a c.args.b) c.in-5.is)

pub returns-in-6 : goal.returns-in-6
unfolding step_of
returns-in-6 c = sym (ap (λ (n : ℕ). step_of n c.args.a c.args.b) c.in-6.is)

pub returns-in-7 : goal.returns-in-7
unfolding step_of
returns-in-7 c =
    (λ i. Some (Diverge (c.from_target.ensures i) (c.onward.ensures i)))
    ∙ sym (ap (λ (n : ℕ). step_of n c.args.a c.args.b) c.in-7.is)

pub returns-in-8 : goal.returns-in-8
unfolding step_of
returns-in-8 c = sym (ap (λ (n : ℕ). step_of n c.args.a c.args.b) c.in-8.is)

pub returns-in-9 : goal.returns-in-9
unfolding step_of
returns-in-9 c = sym (ap (λ (n : ℕ). step_of n c.args.a c.args.b) c.in-9.is)

pub returns-in-10 : goal.returns-in-10
unfolding step_of
returns-in-10 c = sym (ap (λ (n : ℕ). step_of n c.args.a c.args.b) c.in-10.is)

pub returns-in-11 : goal.returns-in-11
unfolding step_of
returns-in-11 c = sym (ap (λ (n : ℕ). step_of n c.args.a c.args.b) c.in-11.is)

pub returns-in-12 : goal.returns-in-12
unfolding step_of
returns-in-12 c = sym (ap (λ (n : ℕ). step_of n c.args.a c.args.b) c.in-12.is)

pub returns-in-13 : goal.returns-in-13
unfolding step_of
returns-in-13 c = sym (ap (λ (n : ℕ). step_of n c.args.a c.args.b) c.in-13.is)

pub returns-in-14 : goal.returns-in-14
unfolding step_of
returns-in-14 c = sym (ap (λ (n : ℕ). step_of n c.args.a c.args.b) c.in-14.is)

pub returns-in-15 : goal.returns-in-15
unfolding step_of
returns-in-15 c = sym (ap (λ (n : ℕ). step_of n c.args.a c.args.b) c.in-15.is)

pub returns-in-16 : goal.returns-in-16
unfolding step_of
returns-in-16 c = sym (ap (λ (n : ℕ). step_of n c.args.a c.args.b) c.in-16.is)

pub returns-in-17 : goal.returns-in-17
unfolding step_of
returns-in-17 c = sym (ap (λ (n : ℕ). step_of n c.args.a c.args.b) c.in-17.is)

pub returns-in-18 : goal.returns-in-18
unfolding step_of
returns-in-18 c = sym (ap (λ (n : ℕ). step_of n c.args.a c.args.b) c.in-18.is)

pub returns-in-19 : goal.returns-in-19
unfolding step_of
returns-in-19 c = sym (ap (λ (n : ℕ). step_of n c.args.a c.args.b) c.in-19.is)

pub returns-in-20 : goal.returns-in-20
unfolding step_of
returns-in-20 c = sym (ap (λ (n : ℕ). step_of n c.args.a c.args.b) c.in-20.is)

pub returns-in_default : goal.returns-in_default
unfolding step_of
returns-in_default c = sym (get_or-eq_default (steps c.args.a c.args.b) None (past 21 c.args.tag c.in_default.in_default-own.rest))
