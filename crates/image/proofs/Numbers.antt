-- The bytes of a number that was read at a place are the bytes at that place.
use mathlib.Core.Path.{◌≡◌, refl}
use mathlib.Core.List.{List, [], ◌∷◌}
use Prim.Native.Nat.{ℕ, ◌+◌, ◌<◌}
use native.Mathlib.Omega.{arith}
use Rattle.records.specs.Bytes.{Bytes, u8_at, u16_at, u32_at}
use Rattle.image.specs.Encode.{u16_bytes, u32_bytes, run_bytes}
use Rattle.image.proofs.Lists.{Lists, lists_one, ◌then◌}

-- l is the bytes of s from a up to e
abbrev pub Spells : List ℕ → ℕ → ℕ → List ℕ → Type 0
Spells s a e l = Lists (u8_at s) a e l

module _ (s : List ℕ) (small : Bytes s) where
  pub spells_u8 : (p e : ℕ) {v : ℕ} → u8_at s p ≡ v → e ≡ p + 1 → Spells s p e (v ∷ [])
  spells_u8 p e h q = lists_one h q

  pub spells_u16 : (p e : ℕ) {v : ℕ} → u16_at s p ≡ v → e ≡ p + 2 → Spells s p e (u16_bytes v)
  unfolding u16_at
  spells_u16 p e {v} h q =
      lists_one (omega (arith, small p)) refl then lists_one (omega (arith, small p)) (omega arith)

  pub half-below : (p : ℕ) → u16_at s p < 65536
  unfolding u16_at
  half-below p = omega (arith, small p, small (p + 1))

  pub spells_u32 : (p e : ℕ) {v : ℕ} → u32_at s p ≡ v → e ≡ p + 4 → Spells s p e (u32_bytes v)
  unfolding u32_at
  spells_u32 p e {v} h q =
      spells_u16 p (p + 2) (omega (arith, half-below p)) refl then spells_u16 (p + 2) e (omega (arith, half-below p)) (omega arith)

  pub spells_run : (p e : ℕ) {first count : ℕ} → u16_at s p ≡ first → u16_at s (p + 2) ≡ count → e ≡ p + 4 → Spells s p e (run_bytes first count)
  spells_run p e f n q = spells_u16 p (p + 2) f refl then spells_u16 (p + 2) e n (omega arith)
