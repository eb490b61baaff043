-- Every stage of the result is set exactly once.
use mathlib.Core.Path.{◌≡◌, refl, ap₂}
use mathlib.Core.Bool.{Bool, true, false, ◌&&◌}
use mathlib.Core.List.{List, [], ◌∷◌}
use Prim.Native.Nat.{ℕ, suc, ◌<◌}
use native.Mathlib.Omega.{arith}
use lib.Dec.{eqb, ltb}
use lib.ListN.{length, get_or}
use borrow.Author.Tests.{eq-eqb, ltb-true, ltb-false}
use Rattle.image.specs.Kind.{all, concat}
use Rattle.image.specs.Vir.{Vir}
use Rattle.normalizer.specs.Layered.{Layered}
use Rattle.normalizer.specs.Normalize.{normalizer_of}
use Rattle.normalizer.proofs.Counted.{Counted, put_at, counted_keeping, counted_start}
use Rattle.normalizer.proofs.Keeping.{begins, roots_from, normalized_keeps}
use Rattle.normalizer.proofs.Lines.{begun_once}
use Rattle.normalizer.proofs.Sums.{occurrences-nil}

-- what each of a list has, all have
all_places : {A : Type 0} (d : A) (f : A → Bool) (xs : List A) → ((k : ℕ) → k < length xs → f (get_or xs k d) ≡ true) → all f xs ≡ true
unfolding all
all_places d f [] h = refl
all_places d f (x ∷ xs) h = ap₂ ◌&&◌ (h 0 (omega arith)) (all_places d f xs (λ k l. h (suc k) (omega arith)))

module _ (v : Vir) (w : Layered v) where
  counted : Counted (length v.stages) (concat (begins (length v.layers) v) (roots_from 0 v.layers)) [] (normalizer_of v).stages
  counted = normalized_keeps v w _ (counted_keeping v) (counted_start v)

  one_each : (s : ℕ) → s < length (normalizer_of v).stages → put_at (normalizer_of v).stages s ≡ 1
  one_each s h = go (ltb s (length v.stages)) refl
    where
      go : (b : Bool) → ltb s (length v.stages) ≡ b → put_at (normalizer_of v).stages s ≡ 1
      go true e =
          let k : s < length v.stages = ltb-true _ _ e in
          omega (arith, counted.old s k, occurrences-nil s, begun_once v w s k)
      go false e = omega (arith, counted.new s (ltb-false _ _ e) h, occurrences-nil s)

  pub set_once : all (λ ts. eqb (length ts) 1) (normalizer_of v).stages ≡ true
  set_once = all_places [] (λ ts. eqb (length ts) 1) (normalizer_of v).stages (λ s h. eq-eqb _ _ (one_each s h))
