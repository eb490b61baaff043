use mathlib.Core.Path.{◌≡◌, ◌∙◌, sym, ap}
use mathlib.Core.Bool.{Bool, ◌&&◌}
use Prim.Native.Nat.{ℕ}
use native.Mathlib.Omega.{arith}
use lib.ListN.{length}
use Rattle.records.specs.declared.Records.{Records}
use Rattle.records.specs.Every.{every}
use Rattle.records.proofs.Every.{every-zero, every-next}
use Rattle.image.specs.Viewed.{viewed}
use Rattle.image.proofs.Owning.{owning_start, owning_on, owning_end}
use Rattle.image.proofs.Viewing.{length-stages}
use Rattle.image.proofs.entering.jump_all.Invariants.{diverges}
use Rattle.image.proofs.entering.jump_all.Goals as goal

pub loop-t-init : goal.loop-t-init
loop-t-init c = record { entered = owning_start _ _ _ _; out = sym (every-zero _) }

pub loop-t-preserved : goal.loop-t-preserved
loop-t-preserved c =
    let r : Records = c.args.layered.now.image.records in
    let so_far = c.loop-t.invariant in
    let jumps = c.jump_stage-jumps.ensures in
    record {
      entered = owning_on so_far.entered _ (omega (arith, length-stages r.bytes.now r.counts)) (ap (λ (b : Bool). c.loop-t.entered && b) jumps.0) jumps.1;
      out = every-next (diverges (viewed r)) c.loop-t.t so_far.out (ap (λ (b : Bool). c.loop-t.out && b) jumps.2);
    }

pub returns : goal.returns
returns c =
    let r : Records = c.args.layered.now.image.records in
    let n = length-stages r.bytes.now r.counts in
    let whole : c.loop-t.t ≡ length (viewed r).stages = omega arith in
    let owned = owning_end c.loop-t.invariant.entered (omega arith) in
    (owned.0, owned.1, c.loop-t.invariant.out ∙ ap (λ (n : ℕ). every n (diverges (viewed r))) whole)
