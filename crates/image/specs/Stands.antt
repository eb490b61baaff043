-- A list that stands somewhere in another, or among the values of a function.
use Rattle.std.specs.Prelude.{◌≡◌, List, ℕ, ◌+◌, ◌<◌, length, get_or}

-- the values of h from a on begin with l
pub record Stands {A : Type 0} (h : ℕ → A) (a : ℕ) (l : List A) : Type 0 where
  pub at : (d : A) (k : ℕ) → k < length l → h (a + k) ≡ get_or l k d
