-- The mark's last two letters and the version, read as one word.
use mathlib.Core.Path.{◌≡◌, refl}
use mathlib.Core.Bool.{Bool, true, false, ◌&&◌}
use mathlib.Core.List.{List}
use Prim.Native.Nat.{ℕ, ◌+◌, ◌*◌, ◌<◌}
use native.Mathlib.Omega.{arith}
use lib.Dec.{eqb}
use borrow.Author.Tests.{eqb-true, eqb-false, eq-eqb, ne_eqb}
use Rattle.records.specs.Bytes.{Bytes, u8_at, u16_at, u32_at}
use Rattle.records.specs.Layout.{version}
use Rattle.image.specs.Check.{marked}

module _ (a b h x y z : ℕ) where
  abbrev this : ℕ
  this = a + 256 * b + 65536 * h

  abbrev that : ℕ
  that = x + 256 * y + 65536 * z

  -- two bytes and what is above them are the same where each is
  parts : a < 256 → b < 256 → x < 256 → y < 256 → eqb this that ≡ (eqb a x && eqb b y && eqb h z)
  parts k l m n = go (eqb a x) refl (eqb b y) refl (eqb h z) refl
    where
      go : (p : Bool) → eqb a x ≡ p → (q : Bool) → eqb b y ≡ q → (r : Bool) → eqb h z ≡ r → eqb this that ≡ (p && q && r)
      go true e true f true g = eq-eqb this that (omega (arith, eqb-true a x e, eqb-true b y f, eqb-true h z g))
      go true e true f false g = ne_eqb this that (λ (d : this ≡ that). eqb-false h z g (omega (arith, d, k, l, m, n)))
      go true e false f r g = ne_eqb this that (λ (d : this ≡ that). eqb-false b y f (omega (arith, d, k, l, m, n)))
      go false e q f r g = ne_eqb this that (λ (d : this ≡ that). eqb-false a x e (omega (arith, d, k, l, m, n)))

pub one_word : (s : List ℕ) → Bytes s → (eqb (u8_at s 0) 86 && eqb (u32_at s 1) (21065 + 65536 * version)) ≡ marked s
unfolding u32_at u16_at
one_word s small =
    go (eqb (u8_at s 0) 86) (parts (u8_at s 1) (u8_at s 2) (u16_at s 3) 73 82 version (small 1) (small 2) (omega arith) (omega arith))
  where
    go : (b : Bool) → eqb (u32_at s 1) (21065 + 65536 * version) ≡ (eqb (u8_at s 1) 73 && eqb (u8_at s 2) 82 && eqb (u16_at s 3) version)
        → (b && eqb (u32_at s 1) (21065 + 65536 * version)) ≡ (b && eqb (u8_at s 1) 73 && eqb (u8_at s 2) 82 && eqb (u16_at s 3) version)
    go true e = e
    go false e = refl
