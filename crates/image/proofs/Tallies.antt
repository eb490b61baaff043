-- Counting along a list: what is ahead gives what the whole gives; and how often each number was counted.
use mathlib.Core.Path.{◌≡◌, ◌∙◌, refl, sym, ap, ap₂, subst}
use mathlib.Core.Bool.{Bool, true, false, cond, ◌&&◌, and-true, and_assoc}
use mathlib.Core.List.{List, [], ◌∷◌}
use Prim.Native.Nat.{ℕ, zero, suc, ◌+◌, ◌-◌, ◌<◌, ◌≤◌, min}
use native.Mathlib.Numerals.{add-one}
use native.Mathlib.Omega.{arith}
use lib.Dec.{eqb, ltb, leb}
use borrow.Author.Tests.{ne_eqb, lt-ltb, ltb-true, ltb-false, eqb-true, eqb-false}
use lib.ListN.{length, get_or, set, length-set, replicate, length-replicate, get_or-replicate}
use lib.Seq.{get_or-set_same, get_or-set_other}
use Rattle.vir.specs.Ids.{none}
use Rattle.records.specs.Every.{every}
use Rattle.image.specs.Kind.{all, occurrences, present}
use Rattle.image.specs.Tally.{bump, tally, tally_entry, owns, counted_at}
use Rattle.image.specs.View.{collect}
use Rattle.records.proofs.Every.{every_cong}

-- the entries from k up to the end are ahead
pub record Tallying (f : ℕ → Bool) (g : ℕ → ℕ) (all_own : Bool) (counted : List ℕ) (end k : ℕ) (ok : Bool) (counts : List ℕ) : Type 0 where
  pub own : (ok && all f (present (collect g k (end - k)))) ≡ all_own
  pub ahead : tally (present (collect g k (end - k))) counts ≡ counted

pub tallying_start : (f : ℕ → Bool) (g : ℕ → ℕ) (k n : ℕ) (counts : List ℕ)
    → Tallying f g (all f (present (collect g k n))) (tally (present (collect g k n)) counts) (k + n) k true counts
tallying_start f g k n counts =
    let whole : k + n - k ≡ n = omega arith in
    record { own = ap (λ (m : ℕ). all f (present (collect g k m))) whole; ahead = ap (λ (m : ℕ). tally (present (collect g k m)) counts) whole }

-- an entry and those behind it
own_step : (f : ℕ → Bool) (e : ℕ) (es : List ℕ) (ok : Bool) → (ok && all f (present (e ∷ es))) ≡ (owns f e ok && all f (present es))
unfolding all present
own_step f e es ok = go (eqb e none)
  where
    go : (b : Bool) → (ok && all f (cond b (present es) (e ∷ present es))) ≡ (cond b ok (ok && f e) && all f (present es))
    go true = refl
    go false = sym (and_assoc ok (f e) (all f (present es)))

tally-step : (e : ℕ) (es counts : List ℕ) → tally (present (e ∷ es)) counts ≡ tally (present es) (tally_entry e counts)
unfolding tally present
tally-step e es counts = go (eqb e none)
  where
    go : (b : Bool)
        → tally (cond b (present es) (e ∷ present es)) counts ≡ tally (present es) (cond b counts (set counts e (bump (get_or counts e 0))))
    go true = refl
    go false = refl

module _ {f : ℕ → Bool} {g : ℕ → ℕ} {all_own : Bool} {counted : List ℕ} where
  pub tallying_on : {end k : ℕ} {ok ok' : Bool} {counts counts' : List ℕ} → Tallying f g all_own counted end k ok counts → k < end
      → ok' ≡ owns f (g k) ok → counts' ≡ tally_entry (g k) counts
      → Tallying f g all_own counted end (k + 1) ok' counts'
  unfolding collect
  tallying_on {end} {k} {ok} {ok'} {counts} {counts'} w h e p =
      let one : end - k ≡ suc (end - (k + 1)) = omega arith in
      let rest : List ℕ = collect g (suc k) (end - (k + 1)) in
      let here : collect g k (end - k) ≡ g k ∷ rest = ap (collect g k) one in
      let next : collect g (k + 1) (end - (k + 1)) ≡ rest = ap (λ (j : ℕ). collect g j (end - (k + 1))) (add-one k) in
      record {
        own =
            ap₂ (λ (o : Bool) (l : List ℕ). o && all f (present l)) e next ∙ sym (own_step f (g k) rest ok)
            ∙ sym (ap (λ (l : List ℕ). ok && all f (present l)) here) ∙ w.own;
        ahead =
            ap₂ (λ (cs l : List ℕ). tally (present l) cs) p next ∙ sym (tally-step (g k) rest counts)
            ∙ sym (ap (λ (l : List ℕ). tally (present l) counts) here) ∙ w.ahead;
      }

  pub tallying_end : {end k : ℕ} {ok : Bool} {counts : List ℕ} → Tallying f g all_own counted end k ok counts → end ≤ k
      → (ok ≡ all_own) × (counts ≡ counted)
  unfolding collect all present tally
  tallying_end {end} {k} {ok} {counts} w h =
      let none : end - k ≡ 0 = omega arith in (
        sym (and-true ok) ∙ sym (ap (λ (n : ℕ). ok && all f (present (collect g k n))) none) ∙ w.own,
        sym (ap (λ (n : ℕ). tally (present (collect g k n)) counts) none) ∙ w.ahead,
      )

bump_min : (n : ℕ) → n ≤ 2 → bump n ≡ min 2 (n + 1)
bump_min n h = go (ltb n 2) refl
  where
    go : (b : Bool) → ltb n 2 ≡ b → cond b (n + 1) n ≡ min 2 (n + 1)
    go true e = let small : n < 2 = ltb-true n 2 e in omega arith
    go false e = let large : 2 ≤ n = ltb-false n 2 e in omega arith

-- what a number is counted at is how often it stands in the list, up to two
tally-counts : (ts counts : List ℕ) (t : ℕ) → t < length counts → get_or counts t 0 ≤ 2
    → get_or (tally ts counts) t 0 ≡ min 2 (get_or counts t 0 + occurrences t ts)
unfolding tally occurrences
tally-counts [] counts t h k = omega arith
tally-counts (x ∷ ts) counts t h k =
    go (eqb x t) refl (set counts x (bump (get_or counts x 0))) refl
    (tally-counts ts (set counts x (bump (get_or counts x 0))) t (subst (λ (n : ℕ). t < n) (sym (length-set counts x _)) h))
  where
    go : (b : Bool) → eqb x t ≡ b → (rest : List ℕ) → rest ≡ set counts x (bump (get_or counts x 0))
        → (get_or rest t 0 ≤ 2 → get_or (tally ts rest) t 0 ≡ min 2 (get_or rest t 0 + occurrences t ts))
        → get_or (tally ts rest) t 0 ≡ min 2 (get_or counts t 0 + (cond b 1 0 + occurrences t ts))
    go true e rest r ih =
        let here : get_or rest t 0 ≡ bump (get_or counts t 0) =
        ap (λ (l : List ℕ). get_or l t 0) r
        ∙ subst (λ (y : ℕ). get_or (set counts y (bump (get_or counts y 0))) t 0 ≡ bump (get_or counts t 0)) (sym (eqb-true x t e))
        (get_or-set_same counts t (bump (get_or counts t 0)) 0 h) in
        omega (arith, ih (omega (arith, here, bump_min (get_or counts t 0) k)), here, bump_min (get_or counts t 0) k)
    go false e rest r ih =
        let here : get_or rest t 0 ≡ get_or counts t 0 =
        ap (λ (l : List ℕ). get_or l t 0) r ∙ get_or-set_other counts x t (bump (get_or counts x 0)) 0 (λ z. eqb-false x t e (sym z)) in
        omega (arith, ih (omega (arith, here)), here)

-- what a count up to two says of the number itself
one_or_more : (n : ℕ) → (leb 1 (min 2 n) && leb (min 2 n) 2) ≡ ltb 0 n
one_or_more zero = refl
one_or_more (suc zero) = refl
one_or_more (suc (suc n)) =
    let several : min 2 (suc (suc n)) ≡ 2 = omega arith in
    ap (λ (k : ℕ). leb 1 k && leb k 2) several ∙ sym (lt-ltb 0 (suc (suc n)) (omega arith))

just_one : (n : ℕ) → (leb 1 (min 2 n) && leb (min 2 n) 1) ≡ eqb n 1
just_one zero = refl
just_one (suc zero) = refl
just_one (suc (suc n)) =
    let several : min 2 (suc (suc n)) ≡ 2 = omega arith in
    ap (λ (k : ℕ). leb 1 k && leb k 1) several ∙ sym (ne_eqb (suc (suc n)) 1 (λ e. omega arith))

abbrev pub zeros : List ℕ
zeros = replicate 256 0

-- counted from nothing
module _ (n : ℕ) (ts : List ℕ) (room : n ≤ 256) where
  pub from_nothing : (t : ℕ) → t < n → get_or (tally ts zeros) t 0 ≡ min 2 (occurrences t ts)
  from_nothing t h =
      let fits : t < 256 = omega arith in
      let empty : get_or zeros t 0 ≡ 0 = get_or-replicate 256 t 0 0 fits in
      tally-counts ts zeros t (subst (λ (m : ℕ). t < m) (sym (length-replicate {A = ℕ} 256 0)) fits) (omega (arith, empty))
      ∙ ap (λ (k : ℕ). min 2 (k + occurrences t ts)) empty ∙ ap (min 2) (omega arith)

  pub counted_any : every n (counted_at (tally ts zeros) 2) ≡ every n (λ t. ltb 0 (occurrences t ts))
  counted_any =
      every_cong _ _ n
      (λ t h. ap (λ (k : ℕ). leb 1 k && leb k 2) (from_nothing t h) ∙ one_or_more (occurrences t ts))

  pub counted_once : every n (counted_at (tally ts zeros) 1) ≡ every n (λ t. eqb (occurrences t ts) 1)
  counted_once =
      every_cong _ _ n
      (λ t h. ap (λ (k : ℕ). leb 1 k && leb k 1) (from_nothing t h) ∙ just_one (occurrences t ts))
