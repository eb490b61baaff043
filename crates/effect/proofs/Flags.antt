-- What an arm of a `match` answers is the flag, by a test over all effects.
use mathlib.Core.Path.{◌≡◌, refl, sym, ap, subst}
use mathlib.Core.Bool.{Bool, true, false, not, beq}
use mathlib.Core.Logic.{◌⊎◌, inl, inr}
use mathlib.Core.List.{List, [], ◌∷◌, map}
use Prim.Native.Nat.{ℕ}
use denote.Enum.Declared.{tag_of}
use lib.Dec.{T}
use mir.Val.{has_key}
use types.Run.{OneOf, miss}
use Rattle.effect.specs.declared.Effect.{Effect}
use Rattle.effect.specs.contracts.Effect.{the_type}
use borrow.Author.Tests.{ne_eqb}
use Rattle.effect.specs.Effect.{number_of, matches}
use Rattle.effect.proofs.Finite.{at, every, implies, number_injective}

beq→eq : (a b : Bool) → T (beq a b) → a ≡ b
beq→eq true true t = refl
beq→eq true false t = absurd t
beq→eq false true t = absurd t
beq→eq false false t = refl

-- an arm of the variants `keys` answers b, and so does the flag at each of them
pub arm : (flag : Effect → Bool) (b : Bool) (keys : List ℕ)
    → T (every (λ e. implies (has_key keys (tag_of the_type e)) (beq b (flag e))))
    → (e : Effect) → OneOf keys (tag_of the_type e) → b ≡ flag e
arm flag b keys t e one = go (has_key keys (tag_of the_type e)) refl (at (λ e. implies (has_key keys (tag_of the_type e)) (beq b (flag e))) t e)
  where
    go : (k : Bool) → has_key keys (tag_of the_type e) ≡ k → T (implies k (beq b (flag e))) → b ≡ flag e
    go true h s = beq→eq b (flag e) s
    go false h s = absurd (miss keys (tag_of the_type e) (subst (λ (x : Bool). T (not x)) (sym h) tt) one)

-- what such an arm says of the value: it is one of the variants
abbrev pub IsOneOf : List Effect → Effect → Type 0
IsOneOf [] e = ⊥
IsOneOf (x ∷ []) e = e ≡ x
IsOneOf (x ∷ y ∷ xs) e = (e ≡ x) ⊎ IsOneOf (y ∷ xs) e

-- .. and its key is one of theirs
pub tagged : (xs : List Effect) (e : Effect) → IsOneOf xs e → OneOf (map (tag_of the_type) xs) (tag_of the_type e)
tagged [] e h = h
tagged (x ∷ []) e h = ap (tag_of the_type) h
tagged (x ∷ y ∷ xs) e (inl h) = inl (ap (tag_of the_type) h)
tagged (x ∷ y ∷ xs) e (inr h) = inr (tagged (y ∷ xs) e h)

-- what the last arm says: the value is none of those before it
abbrev pub IsNoneOf : List Effect → Effect → Type 0
IsNoneOf [] e = Unit {0}
IsNoneOf (x ∷ xs) e = (e ≡ x → ⊥) × IsNoneOf xs e

pub unlisted : (xs : List Effect) (e : Effect) → IsNoneOf xs e → false ≡ matches xs e
unlisted [] e h = refl
unlisted (x ∷ xs) e (h, hs) =
    rw (ne_eqb (number_of x) (number_of e) (λ eq. h (sym (number_injective x e eq)))) (unlisted xs e hs)
