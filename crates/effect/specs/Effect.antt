-- effect.rs: the effects, their numbers in document 01, and the functions over them.
use Rattle.std.specs.Prelude.{Bool, false, ◌||◌, List, [], ◌∷◌, ℕ, eqb, get_or}
use Rattle.effect.specs.declared.Effect.{Effect}
use Rattle.effect.specs.declared.Effect.TheVariants.{Pass as P, Barrier as B, PassBarrier as PB, ReadPass as RP, ReadBarrier as RB, ReadPassBarrier as RPB, BarrierWrite as BW, PassBarrierWrite as PBW, ReadBarrierWrite as RBW, ReadPassBarrierWrite as RPBW, Never as X}

-- document 01's number of an effect
abbrev pub number_of : Effect → ℕ
number_of P = 0
number_of B = 1
number_of PB = 2
number_of RP = 3
number_of RB = 4
number_of RPB = 5
number_of BW = 6
number_of PBW = 7
number_of RBW = 8
number_of RPBW = 9
number_of X = 10

-- every effect, in the order of the numbers
abbrev pub effects : List Effect
effects = P ∷ B ∷ PB ∷ RP ∷ RB ∷ RPB ∷ BW ∷ PBW ∷ RBW ∷ RPBW ∷ X ∷ []

-- the effect of a number; Never past the last
unfoldable pub effect_of : ℕ → Effect
effect_of n = get_or effects n X

-- one effect (the row), then another (the column)
unfoldable pub JOIN : List (List Effect)
JOIN =
    (P ∷ B ∷ PB ∷ RP ∷ RB ∷ RPB ∷ BW ∷ PBW ∷ RBW ∷ RPBW ∷ X ∷ []) ∷
    (B ∷ B ∷ B ∷ B ∷ B ∷ B ∷ BW ∷ B ∷ BW ∷ B ∷ X ∷ []) ∷
    (PB ∷ B ∷ PB ∷ RPB ∷ RB ∷ RPB ∷ BW ∷ PB ∷ RBW ∷ RPB ∷ X ∷ []) ∷
    (RP ∷ RB ∷ RPB ∷ RP ∷ RB ∷ RPB ∷ RBW ∷ RPBW ∷ RBW ∷ RPBW ∷ X ∷ []) ∷
    (RB ∷ RB ∷ RB ∷ RB ∷ RB ∷ RB ∷ RBW ∷ RB ∷ RBW ∷ RB ∷ X ∷ []) ∷
    (RPB ∷ RB ∷ RPB ∷ RPB ∷ RB ∷ RPB ∷ RBW ∷ RPB ∷ RBW ∷ RPB ∷ X ∷ []) ∷
    (BW ∷ B ∷ B ∷ BW ∷ B ∷ B ∷ BW ∷ BW ∷ BW ∷ BW ∷ X ∷ []) ∷
    (PBW ∷ B ∷ PB ∷ RPBW ∷ RB ∷ RPB ∷ BW ∷ PBW ∷ RBW ∷ RPBW ∷ X ∷ []) ∷
    (RBW ∷ RB ∷ RB ∷ RBW ∷ RB ∷ RB ∷ RBW ∷ RBW ∷ RBW ∷ RBW ∷ X ∷ []) ∷
    (RPBW ∷ RB ∷ RPB ∷ RPBW ∷ RB ∷ RPB ∷ RBW ∷ RPBW ∷ RBW ∷ RPBW ∷ X ∷ []) ∷
    (X ∷ X ∷ X ∷ X ∷ X ∷ X ∷ X ∷ X ∷ X ∷ X ∷ X ∷ []) ∷
    []

-- either of two effects
unfoldable pub UNION : List (List Effect)
UNION =
    (P ∷ PB ∷ PB ∷ RP ∷ RPB ∷ RPB ∷ PBW ∷ PBW ∷ RPBW ∷ RPBW ∷ P ∷ []) ∷
    (PB ∷ B ∷ PB ∷ RPB ∷ RB ∷ RPB ∷ B ∷ PB ∷ RB ∷ RPB ∷ B ∷ []) ∷
    (PB ∷ PB ∷ PB ∷ RPB ∷ RPB ∷ RPB ∷ PB ∷ PB ∷ RPB ∷ RPB ∷ PB ∷ []) ∷
    (RP ∷ RPB ∷ RPB ∷ RP ∷ RPB ∷ RPB ∷ RPBW ∷ RPBW ∷ RPBW ∷ RPBW ∷ RP ∷ []) ∷
    (RPB ∷ RB ∷ RPB ∷ RPB ∷ RB ∷ RPB ∷ RB ∷ RPB ∷ RB ∷ RPB ∷ RB ∷ []) ∷
    (RPB ∷ RPB ∷ RPB ∷ RPB ∷ RPB ∷ RPB ∷ RPB ∷ RPB ∷ RPB ∷ RPB ∷ RPB ∷ []) ∷
    (PBW ∷ B ∷ PB ∷ RPBW ∷ RB ∷ RPB ∷ BW ∷ PBW ∷ RBW ∷ RPBW ∷ BW ∷ []) ∷
    (PBW ∷ PB ∷ PB ∷ RPBW ∷ RPB ∷ RPB ∷ PBW ∷ PBW ∷ RPBW ∷ RPBW ∷ PBW ∷ []) ∷
    (RPBW ∷ RB ∷ RPB ∷ RPBW ∷ RB ∷ RPB ∷ RBW ∷ RPBW ∷ RBW ∷ RPBW ∷ RBW ∷ []) ∷
    (RPBW ∷ RPB ∷ RPB ∷ RPBW ∷ RPB ∷ RPB ∷ RPBW ∷ RPBW ∷ RPBW ∷ RPBW ∷ RPBW ∷ []) ∷
    (P ∷ B ∷ PB ∷ RP ∷ RB ∷ RPB ∷ BW ∷ PBW ∷ RBW ∷ RPBW ∷ X ∷ []) ∷
    []

-- the entry of a table at two effects (the tables have one at each two)
abbrev pub entry : List (List Effect) → Effect → Effect → Effect
entry t a b = get_or (get_or t (number_of a) []) (number_of b) P

unfoldable pub join : Effect → Effect → Effect
join = entry JOIN

unfoldable pub union : Effect → Effect → Effect
union = entry UNION

-- the Rust's `matches!`: the effect is one of those listed
abbrev pub matches : List Effect → Effect → Bool
matches [] e = false
matches (x ∷ xs) e = eqb (number_of x) (number_of e) || matches xs e

unfoldable pub read : Effect → Bool
read = matches (RP ∷ RB ∷ RPB ∷ RBW ∷ RPBW ∷ [])

unfoldable pub pass : Effect → Bool
pass = matches (P ∷ PB ∷ RP ∷ RPB ∷ PBW ∷ RPBW ∷ [])

unfoldable pub barrier : Effect → Bool
barrier = matches (B ∷ PB ∷ RB ∷ RPB ∷ BW ∷ PBW ∷ RBW ∷ RPBW ∷ [])

unfoldable pub write : Effect → Bool
write = matches (BW ∷ PBW ∷ RBW ∷ RPBW ∷ [])
