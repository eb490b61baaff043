-- analyzer.rs: `fill_segments`, the effect that each variable starts with for one local.
use Rattle.std.specs.Prelude.{Bool, true, false, ◌||◌, List, [], ◌∷◌, ℕ, eqb, set, replicate}
use Rattle.effect.specs.declared.Effect.{Effect}
use Rattle.effect.specs.declared.Effect.TheVariants.{Pass, Never}
use Rattle.effect.specs.Effect.{join}
use Rattle.image.specs.Loops.{each}
use Rattle.image.specs.Vir.{Vir, stage_of}
use Rattle.analyzer.specs.Build.{Touch, Network, PASS}

-- whether a number stands in a list: `contains`
unfoldable pub contains : List ℕ → ℕ → Bool
contains [] n = false
contains (x ∷ xs) n = eqb x n || contains xs n

-- `*effect = if local.inv.0 { other.join(*effect) } else { effect.join(other) }`
abbrev pub joined : Bool → Effect → Effect → Effect
joined true other effect = join other effect
joined false other effect = join effect other

-- what a segment does to a local, from `or_insert(Effect::Pass)` on; Pass if it does nothing to it
abbrev pub touched : Bool → ℕ → List Touch → Effect
touched inv l touches =
    each (λ t e. elim (eqb t.local l) [ true ↦ joined inv t.effect e | false ↦ e ]) touches Pass

-- a variable without a seed starts at Never; a disconnect cuts the local off where its stage declares it, and lets it through elsewhere
unfoldable pub fill_segments : Vir → Network → Bool → ℕ → List Effect
fill_segments v n inv l =
    each
    (λ d es. elim (contains (stage_of v d.stage).declarations l) [
      | true ↦ set es d.disconnected Pass
      | false ↦ set es d.connected Pass
    ])
    n.disconnects
    (each (λ s es. set es s.var (touched inv l s.touches)) n.segments
    (set (replicate n.vars Never) PASS Pass))
