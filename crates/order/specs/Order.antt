-- The order that union gives, and how often an effect can rise in it.
use Rattle.std.specs.Prelude.{◌≡◌, List, [], ◌∷◌, ℕ}
use Rattle.effect.specs.declared.Effect.{Effect}
use Rattle.effect.specs.declared.Effect.TheVariants.{Pass as P, Barrier as B, PassBarrier as PB, ReadPass as RP, ReadBarrier as RB, ReadPassBarrier as RPB, BarrierWrite as BW, PassBarrierWrite as PBW, ReadBarrierWrite as RBW, ReadPassBarrierWrite as RPBW, Never as X}
use Rattle.effect.specs.Effect.{union}

-- document 01: an effect is at or below another when their union is the other
abbrev pub ◌⊑◌ : Effect → Effect → Type 0
a ⊑ b = union a b ≡ b

infix 50 ◌⊑◌
-- each of a list is strictly above the one before it, and the first above e
abbrev pub Rising : Effect → List Effect → Type 0
Rising e [] = Unit
Rising e (a ∷ more) = (e ⊑ a) × (e ≡ a → ⊥) × Rising a more

-- how often an effect can rise, at most
unfoldable pub rises : Effect → ℕ
rises X = 4
rises P = 3
rises BW = 3
rises B = 2
rises PBW = 2
rises RP = 2
rises RBW = 2
rises PB = 1
rises RB = 1
rises RPBW = 1
rises RPB = 0
