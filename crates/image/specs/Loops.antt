-- The Rust's loops: `for x in list`, `for i in 0..n`, `for i in (0..n).rev()`, over what the body changes.
use Rattle.std.specs.Prelude.{List, [], ◌∷◌, ℕ, zero, suc}

unfoldable pub each : {A S : Type 0} → (A → S → S) → List A → S → S
each f [] s = s
each f (x ∷ xs) s = each f xs (f x s)

unfoldable pub up_to : {S : Type 0} → ℕ → (ℕ → S → S) → S → S
up_to zero f s = s
up_to (suc n) f s = f n (up_to n f s)

unfoldable pub down_from : {S : Type 0} → ℕ → (ℕ → S → S) → S → S
down_from zero f s = s
down_from (suc n) f s = down_from n f (f n s)
