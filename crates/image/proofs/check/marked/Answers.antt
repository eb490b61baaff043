use mathlib.Core.Path.{◌∙◌, ap}
use mathlib.Core.Bool.{◌&&◌}
use Prim.Native.Nat.{ℕ}
use lib.Dec.{eqb}
use Rattle.records.specs.Bytes.{u8_at}
use Rattle.image.proofs.Mark.{one_word}
use Rattle.image.proofs.check.marked.Goals as goal

pub returns : goal.returns
returns c =
    let s = c.args.s.now in
    ap (λ (n : ℕ). eqb (u8_at s 0) 86 && eqb n 86601) c.u32_at.ensures ∙ one_word s (λ k. (c.shared_slice_known-1.given k).fits)
