-- An invocation: document 01's tag, how many ports it has, and its effect on a local.
use Rattle.std.specs.Prelude.{Bool, true, false, ℕ}
use Rattle.effect.specs.declared.Effect.{Effect}
use Rattle.effect.specs.declared.Effect.TheVariants.{Barrier as B, ReadPass as RP, ReadBarrier as RB, BarrierWrite as BW, ReadBarrierWrite as RBW}
use Rattle.vir.specs.declared.arity.Arity.{Arity}
use Rattle.vir.specs.declared.arity.Arity.TheVariants.{Exactly}
use Rattle.vir.specs.declared.invocation.Invocation.{Invocation}
use Rattle.vir.specs.declared.invocation.Invocation.TheVariants.{Barrier, Read, Write, ReadBarrier, BarrierWrite, ReadWrite}

abbrev pub invocation_number : Invocation → ℕ
invocation_number Barrier = 0
invocation_number Read = 1
invocation_number Write = 2
invocation_number ReadBarrier = 3
invocation_number BarrierWrite = 4
invocation_number ReadWrite = 5

-- 0, 1, 1, 1, 1, 2
abbrev pub invocation_ports : Invocation → Arity
invocation_ports Barrier = Exactly 0
invocation_ports Read = Exactly 1
invocation_ports Write = Exactly 1
invocation_ports ReadBarrier = Exactly 1
invocation_ports BarrierWrite = Exactly 1
invocation_ports ReadWrite = Exactly 2

-- `Invocation::effect`: whether the local is an inverse, then whether its reads are loose
abbrev pub invocation_effect : Invocation → Bool → Bool → Effect
invocation_effect Barrier inv fork = B
invocation_effect Read false true = RP
invocation_effect Read false false = RB
invocation_effect Read true fork = BW
invocation_effect Write true true = RP
invocation_effect Write true false = RB
invocation_effect Write false fork = BW
invocation_effect ReadBarrier false fork = RB
invocation_effect ReadBarrier true fork = BW
invocation_effect BarrierWrite true fork = RB
invocation_effect BarrierWrite false fork = BW
invocation_effect ReadWrite inv fork = RBW
