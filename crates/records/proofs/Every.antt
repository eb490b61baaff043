-- Laws of a test at every number below another: what a loop that tests them one by one needs.
use mathlib.Core.Path.{◌≡◌, ◌∙◌, refl, sym, ap, ap₂, subst}
use mathlib.Core.Bool.{Bool, true, false, ◌&&◌, and-true, and-false, true≢false}
use mathlib.Core.List.{List, [], ◌∷◌, ◌++◌}
use Prim.Native.Nat.{ℕ, zero, suc, ◌+◌, ◌<◌, ◌≤◌}
use native.Mathlib.Nat.{not-suc-le-zero, add-zero, zero-add}
use native.Mathlib.Numerals.{add-one}
use native.Mathlib.Omega.{arith}
use lib.Dec.{eqb}
use borrow.Author.Tests.{eqb-true, eqb-false}
use Rattle.std.specs.List.{list_all, range_with_len}
use Rattle.std.proofs.lemmas.List.Folds.{list_all-append}
use Rattle.records.specs.Every.{every}

pub every-zero : (f : ℕ → Bool) → every 0 f ≡ true
unfolding every
every-zero f = refl

-- one more passes
pub every-on : (f : ℕ → Bool) (i : ℕ) → every i f ≡ true → f i ≡ true → every (i + 1) f ≡ true
unfolding every
every-on f i h t = ap (λ (n : ℕ). every n f) (add-one i) ∙ ap (λ (b : Bool). b && f i) h ∙ t

-- one fails
pub every_stop : (f : ℕ → Bool) (n i : ℕ) → i < n → f i ≡ false → every n f ≡ false
unfolding every
every_stop f zero i h t = absurd (not-suc-le-zero h)
every_stop f (suc n) i h t = go (eqb i n) refl (λ (k : i < n). every_stop f n i k t)
  where
    go : (b : Bool) → eqb i n ≡ b → (i < n → every n f ≡ false) → (every n f && f n) ≡ false
    go true e r = ap (λ (b : Bool). every n f && b) (subst (λ (k : ℕ). f k ≡ false) (eqb-true i n e) t) ∙ and-false (every n f)
    go false e r =
        let apart : i ≡ n → ⊥ = eqb-false i n e in
        ap (λ (b : Bool). b && f n) (r (omega arith))

-- all have passed
pub every_end : (f : ℕ → Bool) (n i : ℕ) → n ≤ i → i ≤ n → every i f ≡ true → every n f ≡ true
every_end f n i h k t = subst (λ (m : ℕ). every m f ≡ true) (omega arith) t

-- .. so each has
pub every-at : (f : ℕ → Bool) (n i : ℕ) → every n f ≡ true → i < n → f i ≡ true
every-at f n i t h = go (f i) refl
  where
    go : (b : Bool) → f i ≡ b → f i ≡ true
    go true e = e
    go false e = let z : true ≡ false = sym t ∙ every_stop f n i h e in absurd (true≢false z)

-- what passes at each number below another passes at every one
pub every_from : (f : ℕ → Bool) (n : ℕ) → ((k : ℕ) → k < n → f k ≡ true) → every n f ≡ true
unfolding every
every_from f zero h = refl
every_from f (suc n) h = ap₂ ◌&&◌ (every_from f n (λ k l. h k (omega arith))) (h n (omega arith))

-- tests that agree below n agree at every number below it
pub every_cong : (f g : ℕ → Bool) (n : ℕ) → ((k : ℕ) → k < n → f k ≡ g k) → every n f ≡ every n g
unfolding every
every_cong f g zero h = refl
every_cong f g (suc n) h = ap₂ ◌&&◌ (every_cong f g n (λ k l. h k (omega arith))) (h n (omega arith))

-- one more, whatever it answers
pub every-next : (f : ℕ → Bool) (i : ℕ) {ok ok' : Bool} → ok ≡ every i f → ok' ≡ (ok && f i) → ok' ≡ every (i + 1) f
unfolding every
every-next f i h t = t ∙ ap (λ (b : Bool). b && f i) h ∙ sym (ap (λ (n : ℕ). every n f) (add-one i))

-- a range ends in its last number
range_last : (a n : ℕ) → range_with_len a (suc n) ≡ range_with_len a n ++ ((a + n) ∷ [])
range_last a zero = ap (λ (k : ℕ). k ∷ []) (sym (add-zero a))
range_last a (suc n) =
    let last : (a + 1) + n ≡ a + suc n = omega arith in
    ap (λ (l : List ℕ). a ∷ l) (range_last (a + 1) n ∙ ap (λ (k : ℕ). range_with_len (a + 1) n ++ (k ∷ [])) last)

-- what `all` of a range asks
pub every_range : (f : ℕ → Bool) (n : ℕ) → list_all f (range_with_len 0 n) ≡ every n f
unfolding every
every_range f zero = refl
every_range f (suc n) =
    ap (list_all f) (range_last 0 n)
    ∙ list_all-append f (range_with_len 0 n) ((0 + n) ∷ [])
    ∙ ap₂ ◌&&◌ (every_range f n) (and-true (f (0 + n)) ∙ ap f (zero-add n))
