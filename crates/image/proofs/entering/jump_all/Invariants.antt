use mathlib.Core.Path.{◌≡◌}
use mathlib.Core.Bool.{Bool}
use Prim.Native.Nat.{ℕ}
use Rattle.records.specs.Every.{every}
use Rattle.image.specs.Entering.{enterable, lies_in}
use Rattle.image.specs.Kind.{all, concat}
use Rattle.image.specs.LayerRules.{entries, targets}
use Rattle.image.specs.Tally.{tally}
use Rattle.image.specs.Viewed.{viewed}
use Rattle.image.specs.Vir.{Vir, stage_of}
use Rattle.image.proofs.Owning.{Owning}
use Rattle.image.proofs.entering.jump_all.Given as goal

-- the two rules at a stage
abbrev pub enters : Vir → ℕ → Bool
enters v t = all (enterable v (stage_of v t).layer) (entries v (stage_of v t))

abbrev pub diverges : Vir → ℕ → Bool
diverges v t = all (lies_in v (stage_of v t).layer) (targets (stage_of v t))

abbrev pub invariant-loop-t : goal.invariant-loop-t
invariant-loop-t l =
    let v = viewed l.layered.image.records in
    record {
      entered : Owning (enters v) (entries v) v.stages (tally (concat (entries v) v.stages) l.initial.counts) l.t l.entered l.counts;
      out : l.out ≡ every l.t (diverges v);
    }
