-- Numbers that records name in a row: a test of each of them, and their count, taken from the front, one record at a time.
use mathlib.Core.Path.{◌≡◌, ◌∙◌, refl, sym, ap, ap₂}
use mathlib.Core.Bool.{Bool, ◌&&◌, and-true, and_assoc}
use mathlib.Core.List.{List, [], ◌∷◌, ◌++◌}
use Prim.Native.Nat.{ℕ, suc, ◌+◌, ◌-◌, ◌<◌, ◌≤◌}
use native.Mathlib.Numerals.{add-one}
use native.Mathlib.Omega.{arith}
use Rattle.records.specs.declared.record.Run.{Run}
use Rattle.image.specs.Kind.{all, concat}
use Rattle.image.specs.Tally.{tally}
use Rattle.image.specs.View.{collect}
use Rattle.image.proofs.Owning.{tally-append}

pub all_append : (f : ℕ → Bool) (a b : List ℕ) → all f (a ++ b) ≡ (all f a && all f b)
unfolding all
all_append f [] b = refl
all_append f (x ∷ a) b = ap (λ (r : Bool). f x && r) (all_append f a b) ∙ sym (and_assoc (f x) (all f a) (all f b))

-- the record at k and those behind it, up to e
module _ {A : Type 0} (h : ℕ → A) (k e : ℕ) where
  collect-on : k < e → collect h k (e - k) ≡ h k ∷ collect h (k + 1) (e - (k + 1))
  unfolding collect
  collect-on l =
      let more : e - k ≡ suc (e - (k + 1)) = omega arith in
      ap (collect h k) more ∙ ap (λ (n : ℕ). h k ∷ collect h n (e - (k + 1))) (sym (add-one k))

  collect-end : e ≤ k → collect h k (e - k) ≡ []
  unfolding collect
  collect-end l = let done : e - k ≡ 0 = omega arith in ap (collect h k) done

collect-start : {A : Type 0} (h : ℕ → A) (run : Run) {k e : ℕ} → k ≡ run.first → e ≡ run.first + run.count
    → collect h k (e - k) ≡ collect h run.first run.count
collect-start h run {k} {e} p q = let whole : e - k ≡ run.count = omega arith in ap₂ (collect h) p whole

-- the test of those ahead, and what those behind came to, give the answer
pub record Passing {A : Type 0} (f : ℕ → Bool) (g : A → List ℕ) (h : ℕ → A) (answer : Bool) (k e : ℕ) (ok : Bool) : Type 0 where
  pub ahead : (ok && all f (concat g (collect h k (e - k)))) ≡ answer

pub passing_start : {A : Type 0} (f : ℕ → Bool) (g : A → List ℕ) (h : ℕ → A) (run : Run) {ok : Bool} {k e : ℕ} → k ≡ run.first → e ≡ run.first + run.count
    → Passing f g h (ok && all f (concat g (collect h run.first run.count))) k e ok
passing_start {A} f g h run {ok} p q = record { ahead = ap (λ (l : List A). ok && all f (concat g l)) (collect-start h run p q) }

module _ {A : Type 0} {f : ℕ → Bool} {g : A → List ℕ} {h : ℕ → A} {answer : Bool} {k e : ℕ} {ok : Bool} (w : Passing f g h answer k e ok) where
  pub passing_on : {ok' : Bool} → k < e → ok' ≡ (ok && all f (g (h k))) → Passing f g h answer (k + 1) e ok'
  unfolding concat
  passing_on l p =
      let rest : List ℕ = concat g (collect h (k + 1) (e - (k + 1))) in
      record {
        ahead =
            ap (λ (o : Bool). o && all f rest) p
            ∙ and_assoc ok (all f (g (h k))) (all f rest)
            ∙ ap (λ (b : Bool). ok && b) (sym (all_append f (g (h k)) rest))
            ∙ sym (ap (λ (l : List A). ok && all f (concat g l)) (collect-on h k e l))
            ∙ w.ahead;
      }

  pub passing_end : e ≤ k → ok ≡ answer
  unfolding concat all
  passing_end l = sym (and-true ok) ∙ sym (ap (λ (l : List A). ok && all f (concat g l)) (collect-end h k e l)) ∙ w.ahead

-- the count of those ahead, from what those behind were counted at, is the target
pub record Counting {A : Type 0} (g : A → List ℕ) (h : ℕ → A) (target : List ℕ) (k e : ℕ) (counts : List ℕ) : Type 0 where
  pub ahead : tally (concat g (collect h k (e - k))) counts ≡ target

pub counting_start : {A : Type 0} (g : A → List ℕ) (h : ℕ → A) (run : Run) (counts : List ℕ) {k e : ℕ} → k ≡ run.first
    → e ≡ run.first + run.count → Counting g h (tally (concat g (collect h run.first run.count)) counts) k e counts
counting_start {A} g h run counts p q = record { ahead = ap (λ (l : List A). tally (concat g l) counts) (collect-start h run p q) }

module _ {A : Type 0} {g : A → List ℕ} {h : ℕ → A} {target : List ℕ} {k e : ℕ} {counts : List ℕ} (w : Counting g h target k e counts) where
  pub counting_on : {counts' : List ℕ} → k < e → counts' ≡ tally (g (h k)) counts → Counting g h target (k + 1) e counts'
  unfolding concat
  counting_on l p =
      let rest : List ℕ = concat g (collect h (k + 1) (e - (k + 1))) in
      record {
        ahead =
            ap (tally rest) p ∙ sym (tally-append (g (h k)) rest counts)
            ∙ sym (ap (λ (l : List A). tally (concat g l) counts) (collect-on h k e l))
            ∙ w.ahead;
      }

  pub counting_end : e ≤ k → counts ≡ target
  unfolding concat tally
  counting_end l = sym (ap (λ (l : List A). tally (concat g l) counts) (collect-end h k e l)) ∙ w.ahead
