-- What the tables of the seeds stand for: a base that serves every local, and the touches of all segments, one after the other.
use Rattle.std.specs.Prelude.{List, map, ℕ, set, replicate}
use Rattle.effect.specs.declared.Effect.{Effect}
use Rattle.effect.specs.declared.Effect.TheVariants.{Pass, Never}
use Rattle.image.specs.Kind.{concat}
use Rattle.image.specs.Loops.{each}
use Rattle.analyzer.specs.Build.{Touch, Segment, Disconnect, Network, PASS}

-- a cell for each element of a list
abbrev pub set_all : {A B : Type 0} → (A → ℕ) → (A → B) → List A → List B → List B
set_all f g = each (λ x es. set es (f x) (g x))

-- Pass at each connected
abbrev pub opened : List Disconnect → List Effect → List Effect
opened = set_all (λ (d : Disconnect). d.connected) (λ d. Pass)

-- Pass at PASS, at each segment and at each connected, and Never elsewhere
abbrev pub base_of : Network → List Effect
base_of n =
    set_all (λ (s : Segment). s.var) (λ s. Pass) n.segments
    (opened n.disconnects (set (replicate n.vars Never) PASS Pass))

-- a touch, with its segment's variable: what a row of a flat table says
pub record TouchAt : Type 0 where
  pub var : ℕ
  pub local : ℕ
  pub effect : Effect

abbrev pub touch_at : ℕ → Touch → TouchAt
touch_at var t = record { var = var; local = t.local; effect = t.effect }

-- the touches of all segments, in their order
abbrev pub flat_touches : List Segment → List TouchAt
flat_touches = concat (λ s. map (touch_at s.var) s.touches)
