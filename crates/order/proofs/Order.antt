-- The order that union gives: a partial order, union its least upper bound, join monotone in it, and its height.
use mathlib.Core.Path.{◌≡◌, ◌∙◌, sym, ap}
use mathlib.Core.Bool.{not}
use mathlib.Core.List.{List, [], ◌∷◌}
use Prim.Native.Nat.{◌<◌, ◌≤◌}
use native.Mathlib.Omega.{arith}
use lib.Dec.{leb, leb→le, ltb, ltb→lt, not_T}
use lib.ListN.{length}
use Rattle.effect.specs.declared.Effect.{Effect}
use Rattle.effect.specs.declared.Effect.TheVariants.{Never}
use Rattle.effect.specs.Effect.{join, union, UNION}
use Rattle.order.specs.Order.{◌⊑◌, Rising, rises}
use Rattle.effect.proofs.Finite.{at, at₂, same, same→eq, implies, use_implies}
use Rattle.effect.proofs.Laws.{union_assoc, union_comm, union_idem, never_union_lem, join-union, union-join}

pub ⊑_refl : (a : Effect) → a ⊑ a
⊑_refl = union_idem

pub ⊑_trans : (a b c : Effect) → a ⊑ b → b ⊑ c → a ⊑ c
⊑_trans a b c h k = ap (union a) (sym k) ∙ sym (union_assoc a b c) ∙ ap (λ (x : Effect). union x c) h ∙ k

pub ⊑-antisym : (a b : Effect) → a ⊑ b → b ⊑ a → a ≡ b
⊑-antisym a b h k = sym k ∙ union_comm b a ∙ h

pub never_⊑ : (a : Effect) → Never ⊑ a
never_⊑ = never_union_lem

pub ⊑-union : (a b : Effect) → a ⊑ union a b
⊑-union a b = sym (union_assoc a a b) ∙ ap (λ (x : Effect). union x b) (union_idem a)

pub union_⊑ : (a b c : Effect) → a ⊑ c → b ⊑ c → union a b ⊑ c
union_⊑ a b c h k = union_assoc a b c ∙ ap (union a) k ∙ h

pub join_left : (a b c : Effect) → a ⊑ b → join a c ⊑ join b c
join_left a b c h = sym (union-join a b c) ∙ ap (λ (x : Effect). join x c) h

pub join_right : (a b c : Effect) → a ⊑ b → join c a ⊑ join c b
join_right a b c h = sym (join-union c a b) ∙ ap (join c) h

-- at most four rises, from Never
pub rises-four : (a : Effect) → rises a ≤ 4
unfolding rises
rises-four a = leb→le (rises a) 4 (at (λ a. leb (rises a) 4) tt a)

-- .. and at most three from any other
pub rises_three : (a : Effect) → (a ≡ Never → ⊥) → rises a ≤ 3
unfolding rises
rises_three a h =
    leb→le (rises a) 3
    (use_implies (not (same a Never)) (leb (rises a) 3) (at (λ a. implies (not (same a Never)) (leb (rises a) 3)) tt a)
    (not_T (same a Never) (λ t. h (same→eq a Never t))))

-- what changes the effect leaves it fewer rises
pub rises_less : (a b : Effect) → (union a b ≡ a → ⊥) → rises (union a b) < rises a
unfolding rises union UNION
rises_less a b h =
    ltb→lt _ _
    (use_implies (not (same (union a b) a)) (ltb (rises (union a b)) (rises a))
    (at₂ (λ a b. implies (not (same (union a b) a)) (ltb (rises (union a b)) (rises a))) tt a b)
    (not_T (same (union a b) a) (λ t. h (same→eq (union a b) a t))))

-- no chain of strict rises is longer than the rank of where it starts: four from Never, three from any other
pub rising : (e : Effect) (l : List Effect) → Rising e l → length l ≤ rises e
rising e [] r = omega arith
rising e (a ∷ l) r =
    let less : rises (union e a) < rises e = rises_less e a (λ p. r.1 (sym p ∙ r.0)) in
    omega (arith, rising a l r.2, ap rises r.0)
