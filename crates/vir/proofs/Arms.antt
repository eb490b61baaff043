-- What is known where none of a `match`'s numbers was met.
use mathlib.Core.Path.{◌≡◌}
use Prim.Native.Nat.{ℕ, zero, suc, ◌≤◌}
use native.Mathlib.Omega.{arith}

-- n is none of the first k numbers
abbrev pub Missed : ℕ → ℕ → Type 0
Missed zero n = Unit
Missed (suc k) n = Missed k n × (n ≡ k → ⊥)

pub past : (k n : ℕ) → Missed k n → k ≤ n
past zero n m = omega arith
past (suc k) n m = let far : k ≤ n = past k n m.0 in let other : n ≡ k → ⊥ = m.1 in omega arith
