-- A walk that finds no fault: an induction along its records, and what a list is that is made along it.
use Rattle.std.specs.Prelude.{Err, None, Ok, Option, Result, Some}
use mathlib.Core.Path.{◌≡◌, ◌∙◌, refl, sym, ap, subst}
use mathlib.Core.Bool.{Bool, true, false, cond}
use mathlib.Core.List.{List, [], ◌∷◌}
use Prim.Native.Nat.{ℕ, zero, suc, ◌+◌}
use native.Mathlib.Nat.{mul-suc, mul-zero, zero-add}
use native.Mathlib.Omega.{arith}
use Rattle.records.specs.declared.layout.Counts.{Counts}
use Rattle.records.specs.declared.layout.Section.{Section}
use Rattle.records.specs.declared.layout.Section.TheVariants.{Layers, Interfaces, Stages, Locals, Types, Steps, Ports}
use Rattle.records.specs.declared.running.Running.{Running}
use Rattle.judging.specs.Judge.{judge, after, walk, walk_section, onwards, walk_all}
use Rattle.records.specs.Layout.{sections, size_of, count_of, start_of, place_of}
use Rattle.image.specs.View.{collect}
use Rattle.image.proofs.Lists.{Lists, lists_none}
use Rattle.records.specs.declared.running.Fault.{Fault}

-- a record that is judged by a test, and is not at fault
pub passed : (g : Bool) (n : Running) {r : Running} → cond g (Some n) None ≡ Some r → g ≡ true
passed true n e = refl
passed false n e = let z : ◌≡◌ {A = ℕ} 0 1 = cc in absurd (omega arith)

pub moved : (g : Bool) (n : Running) {r : Running} → cond g (Some n) None ≡ Some r → n ≡ r
moved true n e = cc
moved false n e = let z : ◌≡◌ {A = ℕ} 0 1 = cc in absurd (omega arith)

next_place : (c : Counts) (x : Section) (i : ℕ) → place_of c x (suc i) ≡ place_of c x i + size_of x
next_place c x i = omega (arith, mul-suc (size_of x) i)

module _ (s : List ℕ) (c : Counts) (x : Section) where
  -- what holds behind the last record, and of a record if it does of the next, holds of the first
  module _ (q : Running) (last : ℕ) (P : ℕ → ℕ → Running → Type 0)
      (end : (i : ℕ) → i ≡ last → P i 0 q)
      (turn : (i n : ℕ) (r r' : Running) → judge x s c (place_of c x i) r ≡ Some r' → P (suc i) n r' → P i (suc n) r) where
    along : (i n : ℕ) (r : Running) → i + n ≡ last → walk (judge x s c) (size_of x) n (place_of c x i) r ≡ Ok q → P i n r
    unfolding walk
    along i zero r e w =
        let here : q ≡ r = cc in
        subst (λ (r : Running). P i 0 r) here (end i (omega arith))
    along i (suc n) r e w =
        let ahead : ℕ → Running → (Result Running Fault) = walk (judge x s c) (size_of x) n in
        go (judge x s c (place_of c x i) r) refl
        (λ r' v. along (suc i) n r' (omega arith) (ap (λ (p : ℕ). ahead p r') (next_place c x i) ∙ v)) w
      where
        go : (j : Option Running) → judge x s c (place_of c x i) r ≡ j
            → ((r' : Running) → walk (judge x s c) (size_of x) n (place_of c x i + size_of x) r' ≡ Ok q → P (suc i) n r')
            → after (place_of c x i) j (λ y. walk (judge x s c) (size_of x) n (place_of c x i + size_of x) y) ≡ Ok q → P i (suc n) r
        go None e rest w = let z : ◌≡◌ {A = ℕ} 0 1 = cc in absurd (omega arith)
        go (Some r') e rest w = turn i n r r' e (rest r' w)

    pub along_section : (r : Running) → last ≡ count_of c x → walk_section s c x r ≡ Ok q → P 0 last r
    along_section r e w =
        let from : place_of c x 0 ≡ start_of c x = omega (arith, mul-zero (size_of x)) in
        along 0 last r (zero-add last)
        (ap (λ (p : ℕ). walk (judge x s c) (size_of x) last p r) from
        ∙ ap (λ (n : ℕ). walk (judge x s c) (size_of x) n (start_of c x) r) e
        ∙ w)

  -- a running place that no record moves
  pub kept : (place : Running → ℕ) → ((p : ℕ) (r r' : Running) → judge x s c p r ≡ Some r' → place r' ≡ place r)
      → (r q : Running) → walk_section s c x r ≡ Ok q → place q ≡ place r
  kept place still r q =
      along_section q (count_of c x) (λ i n r. place q ≡ place r) (λ i e. refl) (λ i n r r' j e. e ∙ still (place_of c x i) r r' j) r refl

  -- a list made record by record
  pub lists_section : {A B : Type 0} (h : ℕ → B) (place : ℕ → Running → ℕ) (f : ℕ → A) (out : Running → List A → List B)
      → ((r : Running) → out r [] ≡ [])
      → ((i : ℕ) (r r' : Running) (e : ℕ) (rest : List A) → judge x s c (place_of c x i) r ≡ Some r'
      → Lists h (place (suc i) r') e (out r' rest) → Lists h (place i r) e (out r (f i ∷ rest)))
      → (r q : Running) → walk_section s c x r ≡ Ok q
      → Lists h (place 0 r) (place (count_of c x) q) (out r (collect f 0 (count_of c x)))
  unfolding collect
  lists_section {B = B} h place f out none one r q =
      along_section q (count_of c x)
      (λ i n r. Lists h (place i r) (place (count_of c x) q) (out r (collect f i n)))
      (λ i e. subst (λ (l : List B). Lists h (place i q) (place (count_of c x) q) l) (sym (none q)) (lists_none (ap (λ (k : ℕ). place k q) e)))
      (λ i n r r' j e. one i r r' (place (count_of c x) q) (collect f (suc i) n) j e)
      r refl

-- the running places between the sections
pub record Through (s : List ℕ) (c : Counts) (r q : Running) : Type 0 where
  pub layers : Running
  pub interfaces : Running
  pub stages : Running
  pub locals : Running
  pub types : Running
  pub steps : Running
  pub by-layers : walk_section s c Layers r ≡ Ok layers
  pub by-interfaces : walk_section s c Interfaces layers ≡ Ok interfaces
  pub by-stages : walk_section s c Stages interfaces ≡ Ok stages
  pub by-locals : walk_section s c Locals stages ≡ Ok locals
  pub by-types : walk_section s c Types locals ≡ Ok types
  pub by-steps : walk_section s c Steps types ≡ Ok steps
  pub by-ports : walk_section s c Ports steps ≡ Ok q

-- a section that is clean, and what is ahead of it
record Passed (w : Result Running Fault) (go : Running → Result Running Fault) (q : Running) : Type 0 where
  at : Running
  here : w ≡ Ok at
  ahead : go at ≡ Ok q

pass : (w : Result Running Fault) (go : Running → Result Running Fault) {q : Running} → onwards w go ≡ Ok q → Passed w go q
pass (Err p) go e = let z : ◌≡◌ {A = ℕ} 0 1 = cc in absurd (omega arith)
pass (Ok r) go e = record { at = r; here = refl; ahead = e }

-- behind the last section nothing is ahead
pass_last : (w : Result Running Fault) {q : Running} → onwards w (λ r. Ok r) ≡ Ok q → w ≡ Ok q
pass_last (Err p) e = let z : ◌≡◌ {A = ℕ} 0 1 = cc in absurd (omega arith)
pass_last (Ok r) e = e

pub through : (s : List ℕ) (c : Counts) (r q : Running) → walk_all s c sections r ≡ Ok q → Through s c r q
unfolding walk_all
through s c r q w =
    let a = pass (walk_section s c Layers r) (λ y. walk_all s c (Interfaces ∷ Stages ∷ Locals ∷ Types ∷ Steps ∷ Ports ∷ []) y) w in
    let b = pass (walk_section s c Interfaces a.at) (λ y. walk_all s c (Stages ∷ Locals ∷ Types ∷ Steps ∷ Ports ∷ []) y) a.ahead in
    let d = pass (walk_section s c Stages b.at) (λ y. walk_all s c (Locals ∷ Types ∷ Steps ∷ Ports ∷ []) y) b.ahead in
    let l = pass (walk_section s c Locals d.at) (λ y. walk_all s c (Types ∷ Steps ∷ Ports ∷ []) y) d.ahead in
    let t = pass (walk_section s c Types l.at) (λ y. walk_all s c (Steps ∷ Ports ∷ []) y) l.ahead in
    let u = pass (walk_section s c Steps t.at) (λ y. walk_all s c (Ports ∷ []) y) t.ahead in
    record {
      layers = a.at;
      interfaces = b.at;
      stages = d.at;
      locals = l.at;
      types = t.at;
      steps = u.at;
      by-layers = a.here;
      by-interfaces = b.here;
      by-stages = d.here;
      by-locals = l.here;
      by-types = t.here;
      by-steps = u.here;
      by-ports = pass_last (walk_section s c Ports u.at) u.ahead;
    }
