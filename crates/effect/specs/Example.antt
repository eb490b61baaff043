-- A worked example: what a definition gives, and what document 01 says it gives, both as numbers.
use Rattle.std.specs.Prelude.{◌≡◌, List, [], ◌∷◌, ℕ}

pub record Example : Type 0 where
  pub given : List ℕ
  pub said : List ℕ

-- the claim about a list of examples: each gives what is said
abbrev pub Hold : List Example → Type 0
Hold [] = Unit
Hold (e ∷ es) = (e.given ≡ e.said) × Hold es
