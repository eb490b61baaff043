-- The effects are an idempotent semiring: union is its sum, with Never for zero, and join its product, with Pass for one.
use mathlib.Core.Path.{◌≡◌}
use Rattle.effect.specs.declared.Effect.{Effect}
use Rattle.effect.specs.declared.Effect.TheVariants.{Pass, Never}
use Rattle.effect.specs.Effect.{join, union, JOIN, UNION}
use Rattle.effect.proofs.Finite.{at, at₂, at₃, same, same→eq}

pub union_assoc : (a b c : Effect) → union (union a b) c ≡ union a (union b c)
unfolding union UNION
union_assoc a b c = same→eq _ _ (at₃ (λ a b c. same (union (union a b) c) (union a (union b c))) tt a b c)

pub union_comm : (a b : Effect) → union a b ≡ union b a
unfolding union UNION
union_comm a b = same→eq _ _ (at₂ (λ a b. same (union a b) (union b a)) tt a b)

pub union_idem : (a : Effect) → union a a ≡ a
unfolding union UNION
union_idem a = same→eq _ _ (at (λ a. same (union a a) a) tt a)

pub union_never : (a : Effect) → union a Never ≡ a
unfolding union UNION
union_never a = same→eq _ _ (at (λ a. same (union a Never) a) tt a)

pub never_union_lem : (a : Effect) → union Never a ≡ a
unfolding union UNION
never_union_lem a = same→eq _ _ (at (λ a. same (union Never a) a) tt a)

pub join_assoc : (a b c : Effect) → join (join a b) c ≡ join a (join b c)
unfolding join JOIN
join_assoc a b c = same→eq _ _ (at₃ (λ a b c. same (join (join a b) c) (join a (join b c))) tt a b c)

pub join-pass : (a : Effect) → join a Pass ≡ a
unfolding join JOIN
join-pass a = same→eq _ _ (at (λ a. same (join a Pass) a) tt a)

pub pass-join : (a : Effect) → join Pass a ≡ a
unfolding join JOIN
pass-join a = same→eq _ _ (at (λ a. same (join Pass a) a) tt a)

pub join_never : (a : Effect) → join a Never ≡ Never
unfolding join JOIN
join_never a = same→eq _ _ (at (λ a. same (join a Never) Never) tt a)

pub never_join : (a : Effect) → join Never a ≡ Never
unfolding join JOIN
never_join a = same→eq _ _ (at (λ a. same (join Never a) Never) tt a)

pub join-union : (a b c : Effect) → join a (union b c) ≡ union (join a b) (join a c)
unfolding join JOIN union UNION
join-union a b c = same→eq _ _ (at₃ (λ a b c. same (join a (union b c)) (union (join a b) (join a c))) tt a b c)

pub union-join : (a b c : Effect) → join (union a b) c ≡ union (join a c) (join b c)
unfolding join JOIN union UNION
union-join a b c = same→eq _ _ (at₃ (λ a b c. same (join (union a b) c) (union (join a c) (join b c))) tt a b c)
