-- Every starred example of document 01, as one list.
use Rattle.std.specs.Prelude.{List, ◌++◌}
use Rattle.effect.specs.Example.{Example}
use Rattle.effect.specs.Starred.{starred as on_effects}
use Rattle.normalizer.specs.Starred.{starred as on_normalising}
use Rattle.analyzer.specs.Starred.{starred as on_analysing}

unfoldable pub starred : List Example
starred = on_effects ++ on_analysing ++ on_normalising
