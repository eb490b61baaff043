-- What the Rust's `Invocation::effect` gives: `harness tables` writes it, and harness/tests/tables.rs holds it to the Rust.
-- A row for each invocation, by its number 0 to 5; in it the number of the effect for a local with neither inv nor fork, with fork, with inv, with both.
use Rattle.std.specs.Prelude.{List, [], ◌∷◌, ℕ}

unfoldable pub rust_invocations : List (List ℕ)
rust_invocations =
    (1 ∷ 1 ∷ 1 ∷ 1 ∷ []) ∷
    (4 ∷ 3 ∷ 6 ∷ 6 ∷ []) ∷
    (6 ∷ 6 ∷ 4 ∷ 3 ∷ []) ∷
    (4 ∷ 4 ∷ 6 ∷ 6 ∷ []) ∷
    (6 ∷ 6 ∷ 4 ∷ 4 ∷ []) ∷
    (8 ∷ 8 ∷ 8 ∷ 8 ∷ []) ∷
    []
