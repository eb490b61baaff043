use Rattle.std.specs.Prelude.{None}
use mathlib.Core.Path.{sym, ap}
use lib.ListN.{get_or-eq_default}
use Prim.Native.Nat.{ℕ}
use Rattle.vir.proofs.Arms.{past}
use Rattle.vir.specs.Port.{port_of, ports}
use Rattle.vir.proofs.port.PortKind.from_fields.Goals as goal

pub returns-in-0 : goal.returns-in-0
unfolding port_of
returns-in-0 c = sym (ap (λ (n : ℕ). port_of n c.args.a c.args.b) c.in-0.is)

pub returns-in-1 : goal.returns-in-1
unfolding port_of
returns-in-1 c = sym (ap (λ (n : ℕ). port_of n c.args.a c.args.b) c.in-1.is)

pub returns-in-2 : goal.returns-in-2
unfolding port_of
returns-in-2 c = sym (ap (λ (n : ℕ). port_of n c.args.a c.args.b) c.in-2.is)

pub returns-in-3 : goal.returns-in-3
unfolding port_of
returns-in-3 c = sym (ap (λ (n : ℕ). port_of n c.args.a c.args.b) c.in-3.is)

pub returns-in-4 : goal.returns-in-4
unfolding port_of
returns-in-4 c = sym (ap (λ (n : ℕ). port_of n c.args.a c.args.b) c.in-4.is)

pub returns-in-5 : goal.returns-in-5
unfolding port_of
returns-in-5 c = sym (ap (λ (n : ℕ). port_of n c.args.a c.args.b) c.in-5.is)

pub returns-in-6 : goal.returns-in-6
unfolding port_of
returns-in-6 c = sym (ap (λ (n : ℕ). port_of n c.args.a c.args.b) c.in-6.is)

pub returns-in-7 : goal.returns-in-7
unfolding port_of
returns-in-7 c = sym (ap (λ (n : ℕ). port_of n c.args.a c.args.b) c.in-7.is)

pub returns-in_default : goal.returns-in_default
unfolding port_of
returns-in_default c = sym (get_or-eq_default (ports c.args.a c.args.b) None (past 8 c.args.kind c.in_default.in_default-own.rest))
