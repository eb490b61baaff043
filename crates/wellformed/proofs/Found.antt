-- What check's answer 0 says of the value: it is well formed, and of the kind that was found.
use mathlib.Core.Path.{◌≡◌, ◌∙◌, refl, sym, ap, subst}
use mathlib.Core.Bool.{Bool, true, false, cond, not, ◌&&◌, ◌||◌}
use mathlib.Core.List.{List}
use Prim.Native.Nat.{ℕ}
use native.Mathlib.Omega.{arith}
use borrow.Author.Tests.{eqb-true, eqb-false}
use lib.Dec.{eqb}
use Rattle.records.specs.Bytes.{Bytes}
use Rattle.image.specs.declared.answer.Answer.{Answer}
use Rattle.records.specs.Layout.{counts_of}
use Rattle.image.specs.Accepted.{Accepted}
use Rattle.image.specs.Call.{kind_found, code_for}
use Rattle.image.specs.Check.{kind_answer, check_of}
use Rattle.image.specs.Encode.{encode}
use Rattle.image.specs.Kind.{kind_of_vir, listed, listed_by_own, layered, flat}
use Rattle.image.specs.LayerRules.{layer_rules}
use Rattle.image.specs.View.{view}
use Rattle.image.specs.Vir.{Vir}
use Rattle.image.proofs.Accepting.{accepted}
use Rattle.image.proofs.Answering.{by_kind, within-sized}
use Rattle.image.proofs.RoundTrip.{encode-view}
use Rattle.wellformed.proofs.Answered.{written}
use Rattle.wellformed.proofs.Taken.{Taken, taken}
use Rattle.wellformed.proofs.Viewed.{viewed}

-- an accepted image is what its value is written out as
pub rewritten : (s : List ℕ) → Bytes s → (check_of s).code ≡ 0 → encode (view s) ≡ s
rewritten s small h =
    let t : Taken s = taken s h in
    encode-view s {r = t.last} small (within-sized s (counts_of s) t.counted t.long) t.mark t.clean t.own

-- .. and has what later code may rely on
pub accepted_found : (s : List ℕ) → (check_of s).code ≡ 0 → Accepted s (counts_of s)
accepted_found s h =
    let t : Taken s = taken s h in
    accepted s (counts_of s) t.last (within-sized s (counts_of s) t.counted t.long) t.clean

-- an accepted image has the answer that its value's kind and layer rules give
pub answered : (s : List ℕ) → Bytes s → (check_of s).code ≡ 0 → check_of s ≡ kind_answer (view s)
answered s small h = ap check_of (sym (rewritten s small h)) ∙ written (view s) (viewed s small h)

-- there are three kinds
third : (v : Vir) → (kind_of_vir v ≡ 0 → ⊥) → (kind_of_vir v ≡ 1 → ⊥) → kind_of_vir v ≡ 2
unfolding kind_of_vir
third v = go (listed_by_own v && listed v) (layered v) (flat v)
  where
    number : Bool → Bool → Bool → ℕ
    number a b c = cond a (cond b 2 (cond c 1 0)) 0

    go : (a b c : Bool) → (number a b c ≡ 0 → ⊥) → (number a b c ≡ 1 → ⊥) → number a b c ≡ 2
    go true true c h k = refl
    go true false true h k = absurd (k refl)
    go true false false h k = absurd (h refl)
    go false b c h k = absurd (h refl)

-- kind 1, or kind 2 with the layer rules
abbrev Told : Bool → Bool → Bool → Type 0
Told neither is_flat rules =
    ((by_kind neither is_flat rules).kind ≡ 1 → is_flat ≡ true)
    × ((by_kind neither is_flat rules).kind ≡ 2 → (neither ≡ false) × (is_flat ≡ false) × (rules ≡ true))

found : (neither is_flat rules : Bool) → (by_kind neither is_flat rules).code ≡ 0 → Told neither is_flat rules
found true is_flat rules h = absurd (omega arith)
found false true rules h = (λ k. refl, λ k. absurd (omega arith))
found false false true h = (λ k. absurd (omega arith), λ k. (refl, refl, refl))
found false false false h = absurd (omega arith)

module _ (s : List ℕ) (small : Bytes s) (h : (check_of s).code ≡ 0) where
  found_here : Told (eqb (kind_of_vir (view s)) 0) (eqb (kind_of_vir (view s)) 1) (layer_rules (view s))
  found_here =
      found (eqb (kind_of_vir (view s)) 0) (eqb (kind_of_vir (view s)) 1) (layer_rules (view s))
      (ap (λ (a : Answer). a.code) (sym (answered s small h)) ∙ h)

  same_kind : (check_of s).kind ≡ (kind_answer (view s)).kind
  same_kind = ap (λ (a : Answer). a.kind) (answered s small h)

  pub flat_found : (check_of s).kind ≡ 1 → kind_of_vir (view s) ≡ 1
  flat_found k = eqb-true (kind_of_vir (view s)) 1 (found_here.0 (sym same_kind ∙ k))

  pub rules_found : (check_of s).kind ≡ 2 → layer_rules (view s) ≡ true
  rules_found k = (found_here.1 (sym same_kind ∙ k)).2

  pub layered_found : (check_of s).kind ≡ 2 → kind_of_vir (view s) ≡ 2
  layered_found k =
      let f = found_here.1 (sym same_kind ∙ k) in
      third (view s) (eqb-false (kind_of_vir (view s)) 0 f.0) (eqb-false (kind_of_vir (view s)) 1 f.1)

-- code 0 of a call that takes one kind is check's code 0 and that kind
pub wanted : (a : Answer) (kind : ℕ) → code_for kind a ≡ 0 → (a.code ≡ 0) × (a.kind ≡ kind)
wanted a kind h = (zero, eqb-true a.kind kind (same (eqb a.kind kind) (subst (λ (c : ℕ). for_kind c ≡ 0) zero h)))
  where
    for_kind : ℕ → ℕ
    for_kind c = cond ((eqb c 0 || eqb c 8) && not (eqb (cond (eqb c 8) 2 a.kind) kind)) 7 c

    own : (b : Bool) → cond b 7 a.code ≡ 0 → a.code ≡ 0
    own true e = absurd (omega arith)
    own false e = e

    zero : a.code ≡ 0
    zero = own ((eqb a.code 0 || eqb a.code 8) && not (eqb (kind_found a) kind)) h

    same : (b : Bool) → ◌≡◌ {A = ℕ} (cond (not b) 7 0) 0 → b ≡ true
    same true e = refl
    same false e = absurd (omega arith)
