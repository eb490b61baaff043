-- What a computed test over all effects shows of each.
use mathlib.Core.Path.{◌≡◌, ◌∙◌, refl, sym, ap, ap₂, subst}
use mathlib.Core.Bool.{Bool, true, false, ◌&&◌}
use mathlib.Core.List.{List, [], ◌∷◌}
use Prim.Native.Nat.{ℕ, zero, suc, ◌<◌}
use native.Mathlib.Nat.{le_of_suc-le-suc, not-suc-le-zero}
use native.Mathlib.Omega.{arith}
use denote.Enum.Bare.{sameb}
use denote.Enum.Declared.{tag_of}
use lib.Dec.{T, eqb, eqb→eq, eqb_refl}
use lib.ListN.{length, get_or}
use Rattle.std.proofs.Common.{rules}
use Rattle.effect.specs.declared.Effect.{Effect}
use Rattle.effect.specs.contracts.Effect.{the_type}
use Rattle.effect.specs.declared.Effect.TheVariants.{Pass as P, Never as X}
use Rattle.effect.specs.Effect.{number_of, effect_of, effects, entry}

-- a test that holds where the first fails, or where both hold
abbrev pub implies : Bool → Bool → Bool
implies true b = b
implies false b = true

pub use_implies : (a b : Bool) → T (implies a b) → T a → T b
use_implies true b t h = t
use_implies false b t h = absurd h

pub both_left : (a b : Bool) → T (a && b) → T a
both_left true b t = tt
both_left false b t = t

pub both_right : (a b : Bool) → T (a && b) → T b
both_right true b t = t
both_right false b t = absurd t

abbrev all : {A : Type 0} → (A → Bool) → List A → Bool
all f [] = true
all f (x ∷ xs) = f x && all f xs

all-at : {A : Type 0} (f : A → Bool) (xs : List A) (d : A) → T (all f xs) → (k : ℕ) → k < length xs → T (f (get_or xs k d))
all-at f [] d t k h = absurd (not-suc-le-zero h)
all-at f (x ∷ xs) d t zero h = both_left (f x) (all f xs) t
all-at f (x ∷ xs) d t (suc k) h = all-at f xs d (both_right (f x) (all f xs) t) k (le_of_suc-le-suc h)

pub number_below : (e : Effect) → number_of e < 11
number_below e = grind arith

-- an effect's place among the variants is its number
pub tag_number : (e : Effect) → tag_of the_type e ≡ number_of e
tag_number e = search rules

pub effect_number : (e : Effect) → effect_of (number_of e) ≡ e
unfolding effect_of
effect_number e = search rules

-- the test f at every effect
abbrev pub every : (Effect → Bool) → Bool
every f = all f effects

-- .. shows it at each
pub at : (f : Effect → Bool) → T (every f) → (e : Effect) → T (f e)
unfolding effect_of
at f t e = subst (λ (x : Effect). T (f x)) (effect_number e) (all-at f effects X t (number_of e) (number_below e))

pub at₂ : (f : Effect → Effect → Bool) → T (every (λ a. every (f a))) → (a b : Effect) → T (f a b)
at₂ f t a b = at (f a) (at (λ a. every (f a)) t a) b

pub at₃ : (f : Effect → Effect → Effect → Bool) → T (every (λ a. every (λ b. every (f a b)))) → (a b c : Effect) → T (f a b c)
at₃ f t a b c = at (f a b) (at₂ (λ a b. every (f a b)) t a b) c

-- that two effects are one, as a test
abbrev pub same : Effect → Effect → Bool
same a b = eqb (number_of a) (number_of b)

-- .. and what `==` answers
pub equal-same : (a b : Effect) → sameb the_type a b ≡ same a b
equal-same a b = ap₂ eqb (tag_number a) (tag_number b)

pub number_injective : (a b : Effect) → number_of a ≡ number_of b → a ≡ b
number_injective a b h = sym (effect_number a) ∙ ap effect_of h ∙ effect_number b

pub same→eq : (a b : Effect) → T (same a b) → a ≡ b
same→eq a b t = number_injective a b (eqb→eq (number_of a) (number_of b) t)

pub eq→same : (a b : Effect) → a ≡ b → T (same a b)
eq→same a b h = subst (λ (x : Effect). T (same a x)) h (eqb_refl (number_of a))

-- what the code reads from a table that is the definition's
pub read_off : (t u : List (List Effect)) → t ≡ u → (i j : ℕ) (a b : Effect) → i ≡ number_of a → j ≡ number_of b
    → get_or (get_or t i []) j P ≡ entry u a b
read_off t u e i j a b h k = rw (e, h, k) refl
