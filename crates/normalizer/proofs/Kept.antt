-- The source's interfaces and locals stay in front, with their numbers.
use mathlib.Core.Path.{◌≡◌, ◌∙◌, ap}
use mathlib.Core.List.{List, ◌++◌}
use native.Mathlib.Omega.{arith}
use lib.ListN.{length, take, length-take}
use lib.Seq.{take-append-le, take-length}
use Prim.Native.Nat.{◌≤◌}
use Rattle.image.specs.Vir.{Vir}
use Rattle.normalizer.specs.Layered.{Layered}
use Rattle.normalizer.specs.Normalize.{normalizer_of}
use Rattle.normalizer.proofs.Keeping.{normalized_keeps}

pub front_append : {A : Type 0} (xs ys zs : List A) → take (length xs) ys ≡ xs → take (length xs) (ys ++ zs) ≡ xs
front_append xs ys zs h =
    let long : length xs ≤ length ys = omega (arith, length-take (length xs) ys, ap length h) in
    take-append-le (length xs) ys zs long ∙ h

pub kept-interfaces : (v : Vir) → Layered v → take (length v.interfaces) (normalizer_of v).interfaces ≡ v.interfaces
kept-interfaces v w =
    normalized_keeps v w (λ b q n. take (length v.interfaces) n.interfaces ≡ v.interfaces)
    (record {
      begin = λ b q n t k h. h;
      push = λ b q n h. front_append v.interfaces n.interfaces _ h;
      swap = λ b q n x y h. h;
      put = λ b q n id t h. h;
      local = λ b q n x h. h;
      final = λ b q n l i h. h;
    })
    (take-length v.interfaces)

pub kept-locals : (v : Vir) → Layered v → take (length v.locals) (normalizer_of v).locals ≡ v.locals
kept-locals v w =
    normalized_keeps v w (λ b q n. take (length v.locals) n.locals ≡ v.locals)
    (record {
      begin = λ b q n t k h. h;
      push = λ b q n h. h;
      swap = λ b q n x y h. h;
      put = λ b q n id t h. h;
      local = λ b q n x h. front_append v.locals n.locals _ h;
      final = λ b q n l i h. h;
    })
    (take-length v.locals)
