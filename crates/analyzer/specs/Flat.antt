-- A value that analyse takes: what check's answer 0 and kind 1 say of the image's value.
use Rattle.std.specs.Prelude.{◌≡◌}
use Rattle.image.specs.Kind.{kind_of_vir}
use Rattle.image.specs.Vir.{Vir}
use Rattle.wellformed.specs.WellFormed.{WellFormed}

pub record Flat (v : Vir) : Type 0 where
  pub formed : WellFormed v
  pub kind : kind_of_vir v ≡ 1
