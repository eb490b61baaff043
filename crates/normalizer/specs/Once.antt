-- The Rust unwraps each stage at the end: what it is for that not to fail, and for no stage to be lost.
use Rattle.std.specs.Prelude.{◌≡◌, true, eqb, length}
use Rattle.image.specs.Kind.{all}
use Rattle.image.specs.Vir.{Vir}
use Rattle.normalizer.specs.Normalize.{normalizer_of}

-- every stage was put exactly once
abbrev pub SetOnce : Vir → Type 0
SetOnce v = all (λ ts. eqb (length ts) 1) (normalizer_of v).stages ≡ true
