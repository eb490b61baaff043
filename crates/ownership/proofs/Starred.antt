-- The starred examples hold, under a single claim.
use mathlib.Core.List.{List, [], ◌∷◌, ◌++◌}
use Rattle.effect.specs.Example.{Example, Hold}
use Rattle.effect.specs.Starred.{starred as on_effects}
use Rattle.effect.proofs.Starred.{hold as effects-hold}
use Rattle.normalizer.specs.Starred.{starred as on_normalising}
use Rattle.normalizer.proofs.Starred.{hold as normalising-holds}
use Rattle.analyzer.specs.Starred.{starred as on_analysing}
use Rattle.analyzer.proofs.Starred.{hold as analysing-holds}
use Rattle.ownership.specs.Starred.{starred}

-- two lists, one behind the other
both : (xs ys : List Example) → Hold xs → Hold ys → Hold (xs ++ ys)
both [] ys h k = k
both (x ∷ xs) ys h k = (h.0, both xs ys h.1 k)

pub hold : Hold starred
unfolding starred
hold = both (on_effects ++ on_analysing) on_normalising (both on_effects on_analysing effects-hold analysing-holds) normalising-holds
