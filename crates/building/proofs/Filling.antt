-- Rows one after the other, and what all of them make of the shared seeds: what fill_segments is to make.
use mathlib.Core.Path.{◌≡◌, ◌∙◌, refl, sym, ap, ap₂}
use mathlib.Core.Bool.{Bool, true, false}
use mathlib.Core.List.{List, [], ◌∷◌, ◌++◌}
use Prim.Native.Nat.{ℕ, zero, suc, ◌+◌, ◌<◌, ◌≤◌}
use native.Mathlib.Numerals.{add-one}
use native.Mathlib.Omega.{arith}
use borrow.Author.Tests.{eq-eqb, ne_eqb}
use lib.Dec.{eqb}
use lib.ListN.{length, get_or, get_or-eq_default, set, take}
use lib.Seq.{get_or-take, length-take-le, take_at}
use Rattle.std.proofs.Common.{Result, Ok, Err, MatchResult}
use Rattle.std.specs.Result.{OkIff}
use Rattle.effect.specs.declared.Effect.{Effect}
use Rattle.effect.specs.declared.Effect.TheVariants.{Pass, Never}
use Rattle.effect.specs.Effect.{effects, number_of, effect_of}
use Rattle.image.specs.Kind.{concat}
use Rattle.image.specs.Loops.{each}
use Rattle.image.specs.View.{collect}
use Rattle.image.specs.Vir.{Vir, stage_of}
use Rattle.solve.specs.FixedPoint.{effect_at}
use Rattle.solve.specs.Tables.{effects_of}
use Rattle.solve.proofs.Stack.{effect_stored}
use Rattle.analyzer.specs.Build.{Disconnect, Network}
use Rattle.analyzer.specs.Fill.{contains, joined, fill_segments}
use Rattle.analyzer.specs.Marks.{Apart}
use Rattle.analyzer.specs.Seeds.{TouchAt, flat_touches}
use Rattle.analyzer.proofs.Cuts.{exchange}
use Rattle.analyzer.proofs.Loops.{collect_last, when, each_append}
use Rattle.analyzer.proofs.Seeds.{fill_is}
use Rattle.analyzer.proofs.Touches.{join_into}
use Rattle.building.specs.declared.built.Built.{Built}
use Rattle.building.specs.Fill.{join_touch, exchange_at, Fillable, Filled}
use Rattle.building.specs.Tables.{touch_row, disconnect_row, Seeded}

-- a number of 16 bits, told as one of eight
pub effect_told : {E : Type 0} (n : ℕ) (x : Result ℕ E) (r : Effect) → OkIff x (n < 256) n → MatchResult x (λ m. r ≡ effect_of m) (λ _. r ≡ Never)
    → r ≡ effect_of n
unfolding effect_of
effect_told n (Ok m) r h p = p ∙ ap effect_of h.1
effect_told n (Err e) r h p = p ∙ sym (get_or-eq_default effects Never {n = n} (omega arith))

-- ---- a loop over rows

-- one row more
pub rows_on : {A : Type 0} (f : A → List Effect → List Effect) (row : ℕ → A) (k : ℕ) (from : List Effect) {before after : List Effect}
    → before ≡ each f (collect row 0 k) from → after ≡ f (row k) before → after ≡ each f (collect row 0 (k + 1)) from
unfolding each
rows_on f row k from w p =
    p
    ∙ ap (f (row k)) w
    ∙ sym (each_append f (collect row 0 k) (row k ∷ []) from)
    ∙ ap (λ xs. each f xs from) (sym (collect_last row k))
    ∙ ap (λ (n : ℕ). each f (collect row 0 n) from) (sym (add-one k))

-- ---- a row

module _ (inv : Bool) (l : ℕ) (m : TouchAt) (es : List ℕ) where
  pub touch_passed : (m.local ≡ l → ⊥) → effects_of es ≡ join_touch inv l m (effects_of es)
  touch_passed h = rw (ne_eqb m.local l h, join_touch)

  -- with the number that the code stores
  pub touch_joined : {n : ℕ} {e : Effect} → m.local ≡ l → n ≡ number_of e → e ≡ joined inv m.effect (effect_at (effects_of es) m.var)
      → effects_of (set es m.var n) ≡ join_touch inv l m (effects_of es)
  touch_joined {n} {e} h p q = rw (eq-eqb m.local l h, p, join_touch) (effect_stored es m.var e ∙ ap (set (effects_of es) m.var) q)

module _ (v : Vir) (l : ℕ) (d : Disconnect) (es : List ℕ) where
  pub exchange_passed : contains (stage_of v d.stage).declarations l ≡ false → effects_of es ≡ exchange_at v l d (effects_of es)
  exchange_passed e = rw (e, exchange_at)

  pub exchange_done : {m n : ℕ} → contains (stage_of v d.stage).declarations l ≡ true → m ≡ number_of Never → n ≡ number_of Pass
      → effects_of (set (set es d.connected m) d.disconnected n) ≡ exchange_at v l d (effects_of es)
  exchange_done {m} {n} e p q =
      rw (e, q, exchange_at)
      (effect_stored (set es d.connected m) d.disconnected Pass
      ∙ ap (λ s. set s d.disconnected Pass) (rw p (effect_stored es d.connected Never)))

-- ---- all of them

-- a loop over those that meet a test, and one that passes over the others
each_when : {A S : Type 0} (f : A → S → S) (test : A → Bool) (xs : List A) (s : S)
    → each f (concat (λ x. when (test x) x) xs) s ≡ each (λ x s. elim (test x) [ true ↦ f x s | false ↦ s ]) xs s
unfolding each concat
each_when f test [] s = refl
each_when {A} {S} f test (x ∷ xs) s =
    each_append f (when (test x) x) (concat (λ x. when (test x) x) xs) s
    ∙ each_when f test xs (each f (when (test x) x) s)
    ∙ ap {A = S} (each (λ x s. elim (test x) [ true ↦ f x s | false ↦ s ]) xs) (one (test x))
  where
    one : (b : Bool) → each f (when b x) s ≡ elim b [ true ↦ f x s | false ↦ s ]
    one true = refl
    one false = refl

-- the rows of the first part of a table
collect_same : {A : Type 0} (f g : ℕ → A) (i n : ℕ) → ((k : ℕ) → k < i + n → f k ≡ g k) → collect f i n ≡ collect g i n
unfolding collect
collect_same f g i zero h = refl
collect_same f g i (suc n) h = ap₂ ◌∷◌ (h i (omega arith)) (collect_same f g (suc i) n (λ k b. h k (omega (arith, b))))

rows_taken : {A B : Type 0} (of : B → A) (d : B) (t : List B) (n : ℕ) → n ≤ length t
    → collect (λ k. of (get_or (take n t) k d)) 0 (length (take n t)) ≡ collect (λ k. of (get_or t k d)) 0 n
rows_taken of d t n h =
    ap (collect (λ k. of (get_or (take n t) k d)) 0) (length-take-le n t h)
    ∙ collect_same _ _ 0 n (λ k b. ap of (get_or-take n t k d (omega (arith, b))))

-- what the three loops leave, in the first part of a longer table
pub filled_all : (v : Vir) (inv : Bool) (l : ℕ) (z : Built) (b : List ℕ) (t d : List (List ℕ)) (stages : ℕ) (e₀ e₁ e₂ rest : List ℕ) → Fillable stages z t d
    → length e₂ ≡ z.vars → e₀ ≡ take z.vars b
    → effects_of e₁ ≡ each (join_touch inv l) (collect (touch_row (take z.touches t)) 0 (length (take z.touches t))) (effects_of e₀)
    → effects_of e₂ ≡ each (exchange_at v l) (collect (disconnect_row (take z.disconnects d)) 0 (length (take z.disconnects d))) (effects_of e₁)
    → Filled v inv l z b t d (e₂ ++ rest)
filled_all v inv l z b t d stages e₀ e₁ e₂ rest fits sized copied touched cut = record { filled = of }
  where
    of : (n : Network) → Apart n → Seeded n b t d z → effects_of (take z.vars (e₂ ++ rest)) ≡ fill_segments v n inv l
    of n a s =
        ap effects_of (take_at e₂ rest z.vars sized)
        ∙ cut
        ∙ ap₂ (each (exchange_at v l)) (rows_taken (λ r. disconnect_row (r ∷ []) 0) [] d z.disconnects fits.disconnects ∙ s.disconnects)
        (touched
        ∙ ap₂ (each (join_touch inv l)) (rows_taken (λ r. touch_row (r ∷ []) 0) [] t z.touches fits.touches ∙ s.touches) (ap effects_of copied ∙ s.base)
        ∙ sym (each_when (join_into inv) (λ m. eqb m.local l) (flat_touches n.segments) _))
        ∙ sym (each_when exchange (λ d. contains (stage_of v d.stage).declarations l) n.disconnects _)
        ∙ sym (fill_is v n inv l a)
