use Rattle.std.proofs.Common.{ℕ, Option, None, Result, ok_or}
use mathlib.Core.Path.{sym, ap}
use lib.ListN.{get_or-eq_default}
use Rattle.vir.proofs.Arms.{past}
use Rattle.vir.specs.declared.header.Header.{Header}
use Rattle.vir.specs.declared.unknown.Unknown.{Unknown}
use Rattle.vir.specs.Header.{header_of, headers}
use Rattle.vir.proofs.header.HeaderTryFromU8.try_from.Goals as goal

abbrev decoded : (n : ℕ) → ℕ → Result Header Unknown
decoded n k = ok_or (header_of k) (record { 0 = n })

pub returns-in-0 : goal.returns-in-0
unfolding header_of
returns-in-0 c = sym (ap (decoded c.args.n) c.in-0.is)

pub returns-in-1 : goal.returns-in-1
unfolding header_of
returns-in-1 c = sym (ap (decoded c.args.n) c.in-1.is)

pub returns-in-2 : goal.returns-in-2
unfolding header_of
returns-in-2 c = sym (ap (decoded c.args.n) c.in-2.is)

pub returns-in-3 : goal.returns-in-3
unfolding header_of
returns-in-3 c = sym (ap (decoded c.args.n) c.in-3.is)

pub returns-in-4 : goal.returns-in-4
unfolding header_of
returns-in-4 c = sym (ap (decoded c.args.n) c.in-4.is)

pub returns-in-5 : goal.returns-in-5
unfolding header_of
returns-in-5 c = sym (ap (decoded c.args.n) c.in-5.is)

pub returns-in-6 : goal.returns-in-6
unfolding header_of
returns-in-6 c = sym (ap (decoded c.args.n) c.in-6.is)

pub returns-in-7 : goal.returns-in-7
unfolding header_of
returns-in-7 c = sym (ap (decoded c.args.n) c.in-7.is)

pub returns-in_default : goal.returns-in_default
unfolding header_of
returns-in_default c =
    sym (ap (λ (o : Option Header). ok_or o (record { 0 = c.args.n })) (get_or-eq_default headers None (past 8 c.args.n c.in_default.in_default-own.rest)))
