-- What the tables hold when the locals of an image are processed, and what is found out of one of them.
use Rattle.std.specs.Prelude.{◌≡◌, Bool, List, ℕ, ◌≤◌, length, take}
use Rattle.records.specs.declared.layout.Counts.{Counts}
use Rattle.image.specs.Vir.{Vir}
use Rattle.solve.specs.declared.Relation.{Relation}
use Rattle.solve.specs.declared.Solved.{Solved}
use Rattle.solve.specs.FixedPoint.{fixed_point}
use Rattle.solve.specs.Tables.{relations_of, end_of, Entered}
use Rattle.analyzer.specs.Demand.{network_of}
use Rattle.analyzer.specs.Fill.{fill_segments}
use Rattle.analyzer.specs.Marks.{Apart}
use Rattle.building.specs.declared.built.Built.{Built}
use Rattle.building.specs.Fill.{Fillable}
use Rattle.building.specs.Tables.{Held}

-- the network of the image, and the relations entered at each variable
pub record Solvable (v : Vir) (c : Counts) (z : Built) (r : List Relation) (st en b : List ℕ) (t d : List (List ℕ)) : Type 0 where
  pub held : Held (network_of v) r b t d z
  pub apart : Apart (network_of v)
  pub fillable : Fillable c.stages z t d
  pub entered : Entered (relations_of r z.relations) z.vars r st en
  pub based : z.vars ≤ length b
  pub few : z.vars ≤ 7937

-- the first n effects and the counters are those of the worklist from the local's seeds
pub record SolvedFor (v : Vir) (l : ℕ) (inv : Bool) (n : ℕ) (es : List ℕ) (r : Solved) : Type 0 where
  pub solved : end_of (take n es) r ≡ fixed_point inv (network_of v).relations (fill_segments v (network_of v) inv l)
