-- Numbers at a place of a list of bytes, little-endian.
use Rattle.std.specs.Prelude.{List, ℕ, ◌+◌, ◌*◌, ◌<◌, get_or}

abbrev pub u8_at : List ℕ → ℕ → ℕ
u8_at s p = get_or s p 0

unfoldable pub u16_at : List ℕ → ℕ → ℕ
u16_at s p = u8_at s p + 256 * u8_at s (p + 1)

unfoldable pub u32_at : List ℕ → ℕ → ℕ
u32_at s p = u16_at s p + 65536 * u16_at s (p + 2)

-- every element is a byte
abbrev pub Bytes : List ℕ → Type 0
Bytes s = (k : ℕ) → u8_at s k < 256
