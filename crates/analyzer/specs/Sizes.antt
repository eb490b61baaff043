-- Document 01: how many variables and relations there can be; and that every index names one that is there.
use Rattle.std.specs.Prelude.{ℕ, ◌≤◌, ◌<◌, length, get_or}
use Rattle.solve.specs.FixedPoint.{dependent_on}
use Rattle.solve.specs.Least.{AllInside}
use Rattle.analyzer.specs.Build.{Segment, Disconnect, Network}

pub record Sizes (n : Network) : Type 0 where
  pub vars : n.vars ≤ 7937
  pub relations : length n.relations ≤ 7424
  pub inside : AllInside n.vars n.relations
  -- an entry is a relation, so its indices are in range too
  pub entries : (x : ℕ) → AllInside n.vars (dependent_on n.relations x)
  pub segments : (k : ℕ) (d : Segment) → k < length n.segments → (get_or n.segments k d).var < n.vars
  pub connected : (k : ℕ) (d : Disconnect) → k < length n.disconnects → (get_or n.disconnects k d).connected < n.vars
  pub disconnected : (k : ℕ) (d : Disconnect) → k < length n.disconnects → (get_or n.disconnects k d).disconnected < n.vars
