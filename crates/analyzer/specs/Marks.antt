-- The variables that fill_segments sets, and that no two of them are the same: any table of seeds needs it.
use Rattle.std.specs.Prelude.{List, [], ◌∷◌, ◌++◌, ◌≢◌, ℕ, ◌<◌, length, get_or}
use Rattle.analyzer.specs.Build.{Segment, Disconnect, Network, PASS}

abbrev pub vars_of : List Segment → List ℕ
vars_of [] = []
vars_of (s ∷ ss) = s.var ∷ vars_of ss

abbrev pub ends_of : List Disconnect → List ℕ
ends_of [] = []
ends_of (d ∷ ds) = d.connected ∷ d.disconnected ∷ ends_of ds

abbrev pub marks_of : List Segment → List Disconnect → List ℕ
marks_of ss ds = vars_of ss ++ ends_of ds

-- the segments' variables, then each disconnect's connected and disconnected one
abbrev pub marks : Network → List ℕ
marks n = marks_of n.segments n.disconnects

pub record Apart (n : Network) : Type 0 where
  pub inside : (k : ℕ) → k < length (marks n) → get_or (marks n) k 0 < n.vars
  pub other : (k : ℕ) → k < length (marks n) → get_or (marks n) k 0 ≢ PASS
  pub apart : (j k : ℕ) → j < k → k < length (marks n) → get_or (marks n) j 0 ≢ get_or (marks n) k 0
