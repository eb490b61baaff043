-- A value that normalise takes: what check's answer 0 and kind 2 say of the image's value.
use Rattle.std.specs.Prelude.{true, ◌≡◌}
use Rattle.image.specs.Kind.{kind_of_vir}
use Rattle.image.specs.LayerRules.{layer_rules}
use Rattle.image.specs.Vir.{Vir}
use Rattle.wellformed.specs.WellFormed.{WellFormed}

pub record Layered (v : Vir) : Type 0 where
  pub formed : WellFormed v
  pub kind : kind_of_vir v ≡ 2
  pub rules : layer_rules v ≡ true
