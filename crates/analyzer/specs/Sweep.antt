-- analyzer.rs: `sweep`, how often each interface is come to.
use Rattle.std.specs.Prelude.{true, false, List, [], ◌∷◌, ℕ, zero, suc, ◌+◌, eqb, length, get_or, set, replicate}
use Rattle.image.specs.Kind.{concat, stages_of}
use Rattle.image.specs.LayerRules.{transfer_to}
use Rattle.image.specs.Loops.{each}
use Rattle.image.specs.Vir.{Stage, Vir, interface_of, stage_of}

-- the interfaces that a stage's Transfer steps name, each step's
abbrev pub transfers_of : Stage → List ℕ
transfers_of t = concat (λ a. transfer_to a.step) t.steps

-- .. of the stages that an interface lists, each listing's (a Closure's missing ones are skipped)
abbrev pub onward_from : Vir → ℕ → List ℕ
onward_from v i = concat (λ t. transfers_of (stage_of v t)) (stages_of (interface_of v i))

-- `sweep`: an interface met before is counted, a new one is counted and gone on from.
-- The calls inside each other are on interfaces met for the first time, but for the innermost: `sweep-enough` says that the fuel is enough
unfoldable pub sweep : ℕ → Vir → ℕ → List ℕ → List ℕ
sweep zero v i incoming = incoming
sweep (suc k) v i incoming =
    elim (eqb (get_or incoming i 0) 0) [
      | false ↦ set incoming i (get_or incoming i 0 + 1)
      | true ↦ each (sweep k v) (onward_from v i) (set incoming i 1)
    ]

-- `self.sweep(InterfaceId(0))`
unfoldable pub incoming_of : Vir → List ℕ
incoming_of v = sweep (suc (length v.interfaces)) v 0 (replicate (length v.interfaces) 0)

-- how many interfaces have not been come to
unfoldable pub unmet : List ℕ → ℕ
unmet [] = 0
unmet (zero ∷ more) = suc (unmet more)
unmet (suc n ∷ more) = unmet more
