use Rattle.std.proofs.Common.{ℕ, Option, None, Result, ok_or}
use mathlib.Core.Path.{sym, ap}
use lib.ListN.{get_or-eq_default}
use Rattle.vir.proofs.Arms.{past}
use Rattle.vir.specs.declared.interface.InterfaceKind.{InterfaceKind}
use Rattle.vir.specs.declared.unknown.Unknown.{Unknown}
use Rattle.vir.specs.Interface.{kind_of, kinds}
use Rattle.vir.proofs.interface.InterfaceKindTryFromU8.try_from.Goals as goal

abbrev decoded : (n : ℕ) → ℕ → Result InterfaceKind Unknown
decoded n k = ok_or (kind_of k) (record { 0 = n })

pub returns-in-0 : goal.returns-in-0
unfolding kind_of
returns-in-0 c = sym (ap (decoded c.args.n) c.in-0.is)

pub returns-in-1 : goal.returns-in-1
unfolding kind_of
returns-in-1 c = sym (ap (decoded c.args.n) c.in-1.is)

pub returns-in-2 : goal.returns-in-2
unfolding kind_of
returns-in-2 c = sym (ap (decoded c.args.n) c.in-2.is)

pub returns-in-3 : goal.returns-in-3
unfolding kind_of
returns-in-3 c = sym (ap (decoded c.args.n) c.in-3.is)

pub returns-in-4 : goal.returns-in-4
unfolding kind_of
returns-in-4 c = sym (ap (decoded c.args.n) c.in-4.is)

pub returns-in_default : goal.returns-in_default
unfolding kind_of
returns-in_default c =
    sym (ap (λ (o : Option InterfaceKind). ok_or o (record { 0 = c.args.n })) (get_or-eq_default kinds None (past 5 c.args.n c.in_default.in_default-own.rest)))
