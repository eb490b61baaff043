-- What the tables that build makes stand for: the relations, an effect's number a variable, three numbers a touch or a disconnect.
use Rattle.std.specs.Prelude.{◌≡◌, List, [], ℕ, length, get_or, take}
use Rattle.effect.specs.Effect.{effect_of}
use Rattle.image.specs.View.{collect}
use Rattle.solve.specs.declared.Relation.{Relation}
use Rattle.solve.specs.Tables.{relations_of, effects_of}
use Rattle.analyzer.specs.Build.{Disconnect, Network}
use Rattle.analyzer.specs.Seeds.{TouchAt, base_of, flat_touches}
use Rattle.building.specs.declared.built.Built.{Built}

-- number j of row k
abbrev pub row_at : List (List ℕ) → ℕ → ℕ → ℕ
row_at t k j = get_or (get_or t k []) j 0

-- variable, local, effect
abbrev pub touch_row : List (List ℕ) → ℕ → TouchAt
touch_row t k = record { var = row_at t k 0; local = row_at t k 1; effect = effect_of (row_at t k 2) }

-- stage, connected, disconnected
abbrev pub disconnect_row : List (List ℕ) → ℕ → Disconnect
disconnect_row t k = record { stage = row_at t k 0; connected = row_at t k 1; disconnected = row_at t k 2 }

-- what fill_segments reads of a network: the seeds that every local shares, all touches, all disconnects
pub record Seeded (n : Network) (b : List ℕ) (t d : List (List ℕ)) (z : Built) : Type 0 where
  pub vars : z.vars ≡ n.vars
  pub base : effects_of (take z.vars b) ≡ base_of n
  pub touches : collect (touch_row t) 0 z.touches ≡ flat_touches n.segments
  pub disconnects : collect (disconnect_row d) 0 z.disconnects ≡ n.disconnects

-- .. and the relations
pub record Held (n : Network) (r : List Relation) (b : List ℕ) (t d : List (List ℕ)) (z : Built) : Type 0 where
  pub seeded : Seeded n b t d z
  pub counted : z.relations ≡ length n.relations
  pub relations : relations_of r z.relations ≡ n.relations
