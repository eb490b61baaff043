-- An image that is longer than any accepted one is answered by its first bytes alone.
use mathlib.Core.Path.{◌≡◌, ◌∙◌, sym, ap, ap₂}
use mathlib.Core.Bool.{true, false, ◌&&◌}
use mathlib.Core.List.{List}
use Prim.Native.Nat.{ℕ, ◌+◌, ◌*◌, ◌<◌}
use native.Mathlib.Omega.{arith}
use lib.Dec.{eqb}
use lib.ListN.{length, get_or, take}
use lib.Seq.{get_or-take}
use Rattle.records.specs.Bytes.{u8_at, u16_at}
use Rattle.image.specs.Check.{marked, check_of}
use Rattle.image.specs.Answer.{refused}
use Rattle.records.specs.Layout.{counts_of, within}
use Rattle.image.proofs.Answering.{check_unmarked, check_count, check_length, within-most}

module _ (s t : List ℕ) (same : take 21 s ≡ take 21 t) where
  byte : (k : ℕ) → k < 21 → u8_at s k ≡ u8_at t k
  byte k h = sym (get_or-take 21 s k 0 h) ∙ ap (λ (l : List ℕ). get_or l k 0) same ∙ get_or-take 21 t k 0 h

  half : (k : ℕ) → k + 1 < 21 → u16_at s k ≡ u16_at t k
  unfolding u16_at
  half k h = ap₂ (λ (a b : ℕ). a + 256 * b) (byte k (omega arith)) (byte (k + 1) h)

  counts : counts_of s ≡ counts_of t
  counts = λ i. record {
    layers = half 5 (omega arith) i;
    interfaces = half 7 (omega arith) i;
    stages = half 9 (omega arith) i;
    locals = half 11 (omega arith) i;
    types = half 13 (omega arith) i;
    steps = half 15 (omega arith) i;
    ports = half 17 (omega arith) i;
    refs = half 19 (omega arith) i;
  }

  marks : marked s ≡ marked t
  marks =
      λ i. eqb (byte 0 (omega arith) i) 86 && eqb (byte 1 (omega arith) i) 73 && eqb (byte 2 (omega arith) i) 82 && eqb (half 3 (omega arith) i) 1

  module _ (long : 63893 < length s) where
    pub long_unmarked : marked t ≡ false → refused 3 0 ≡ check_of s
    long_unmarked h = check_unmarked s (omega arith) (marks ∙ h)

    module _ (mark : marked t ≡ true) where
      pub long_count : within (counts_of t) ≡ false → refused 4 0 ≡ check_of s
      long_count h = check_count s (omega arith) (marks ∙ mark) (ap within counts ∙ h)

      pub long-length : within (counts_of t) ≡ true → refused 5 0 ≡ check_of s
      long-length h =
          check_length s (omega arith) (marks ∙ mark) (ap within counts ∙ h)
          (λ e. omega (arith, within-most (counts_of s) (ap within counts ∙ h)))
