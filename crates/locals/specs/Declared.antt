-- A stage that declares a local, and whose interface is come to: what `declared` asks of one stage.
use Rattle.std.specs.Prelude.{Bool, not, ◌&&◌, List, ℕ, eqb, get_or}
use Rattle.image.specs.Vir.{Stage}
use Rattle.analyzer.specs.Fill.{contains}

abbrev pub declared_in : List ℕ → ℕ → Stage → Bool
declared_in incoming l t = not (eqb (get_or incoming t.interface 0) 0) && contains t.declarations l
