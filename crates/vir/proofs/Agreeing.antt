-- An invocation's effect is the Rust's in every case, by computing.
use mathlib.Core.Path.{◌≡◌, refl}
use mathlib.Core.Bool.{true, false}
use mathlib.Core.List.{List, [], ◌∷◌, map}
use Prim.Native.Nat.{ℕ}
use Rattle.effect.specs.Effect.{number_of}
use Rattle.vir.specs.declared.invocation.Invocation.{Invocation}
use Rattle.vir.specs.declared.invocation.Invocation.TheVariants.{Barrier, Read, Write, ReadBarrier, BarrierWrite, ReadWrite}
use Rattle.vir.specs.Invocation.{invocation_effect}
use Rattle.vir.specs.RustInvocations.{rust_invocations}

abbrev effects_of : Invocation → List ℕ
effects_of i =
    number_of (invocation_effect i false false) ∷ number_of (invocation_effect i false true) ∷
    number_of (invocation_effect i true false) ∷ number_of (invocation_effect i true true) ∷ []

pub invocations_agree : map effects_of (Barrier ∷ Read ∷ Write ∷ ReadBarrier ∷ BarrierWrite ∷ ReadWrite ∷ []) ≡ rust_invocations
unfolding rust_invocations
invocations_agree = refl
