-- What fill_segments does with each row of the tables, what it asks of them, and what it promises.
use Rattle.std.specs.Prelude.{◌≡◌, Bool, true, false, List, ℕ, ◌<◌, ◌≤◌, eqb, length, set, take}
use Rattle.effect.specs.declared.Effect.{Effect}
use Rattle.effect.specs.declared.Effect.TheVariants.{Pass, Never}
use Rattle.image.specs.Vir.{Vir, stage_of}
use Rattle.solve.specs.FixedPoint.{effect_at}
use Rattle.solve.specs.Tables.{effects_of}
use Rattle.analyzer.specs.Build.{Disconnect, Network}
use Rattle.analyzer.specs.Fill.{contains, joined, fill_segments}
use Rattle.analyzer.specs.Marks.{Apart}
use Rattle.analyzer.specs.Seeds.{TouchAt}
use Rattle.building.specs.declared.built.Built.{Built}
use Rattle.building.specs.Tables.{row_at, disconnect_row, Seeded}

-- a touch of the local is joined in at its variable
abbrev pub join_touch : Bool → ℕ → TouchAt → List Effect → List Effect
join_touch inv l m es =
    elim (eqb m.local l) [ true ↦ set es m.var (joined inv m.effect (effect_at es m.var)) | false ↦ es ]

-- where the stage declares the local, connected and disconnected are exchanged
abbrev pub exchange_at : Vir → ℕ → Disconnect → List Effect → List Effect
exchange_at v l d es =
    elim (contains (stage_of v d.stage).declarations l) [
      | true ↦ set (set es d.connected Never) d.disconnected Pass
      | false ↦ es
    ]

-- a disconnect that names a stage and two variables that there are
pub record Within (stages vars : ℕ) (d : Disconnect) : Type 0 where
  pub stage : d.stage < stages
  pub connected : d.connected < vars
  pub disconnected : d.disconnected < vars

-- rows that stand in their tables, and name variables and stages that there are
pub record Fillable (stages : ℕ) (z : Built) (t d : List (List ℕ)) : Type 0 where
  pub touches : z.touches ≤ length t
  pub disconnects : z.disconnects ≤ length d
  pub touched : (k : ℕ) → k < z.touches → row_at t k 0 < z.vars
  pub cut : (k : ℕ) → k < z.disconnects → Within stages z.vars (disconnect_row d k)

-- the seeds of a local, of whatever network the tables hold
pub record Filled (v : Vir) (inv : Bool) (l : ℕ) (z : Built) (b : List ℕ) (t d : List (List ℕ)) (es : List ℕ) : Type 0 where
  pub filled : (n : Network) → Apart n → Seeded n b t d z → effects_of (take z.vars es) ≡ fill_segments v n inv l
