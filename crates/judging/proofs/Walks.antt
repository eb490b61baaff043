-- Walks over the records: what is ahead gives what the whole gives.
use Rattle.std.proofs.Common.{ok_or, Err, None, Ok, Option, Result, Some}
use mathlib.Core.Path.{◌≡◌, ◌∙◌, refl, sym, ap, ap₂}
use mathlib.Core.List.{List}
use Prim.Native.Nat.{ℕ, suc, ◌+◌, ◌*◌, ◌-◌, ◌≤◌, ◌<◌}
use native.Mathlib.Numerals.{add-one}
use native.Mathlib.Nat.{mul-zero, mul-suc}
use native.Mathlib.Omega.{arith}
use lib.ListN.{length, get_or, drop}
use lib.Seq.{drop-cons}
use Rattle.records.specs.declared.layout.Counts.{Counts}
use Rattle.records.specs.declared.layout.Section.{Section}
use Rattle.records.specs.declared.layout.Section.TheVariants.{Layers, Interfaces, Stages, Locals, Types, Steps, Ports}
use Rattle.records.specs.declared.running.Running.{Running}
use Rattle.judging.specs.Judge.{judge, after, walk, walk_section, onwards, walk_all}
use Rattle.records.specs.Layout.{sections, size_of, count_of, start_of, place_of, Sized}
use Rattle.records.specs.declared.running.Fault.{Fault}

-- every record stands within the bytes
pub record_room : (s : List ℕ) (c : Counts) (x : Section) (k : ℕ) → Sized s c → k < count_of c x → place_of c x k + size_of x ≤ length s
record_room s c Layers k z h = omega (arith, z.long)
record_room s c Interfaces k z h = omega (arith, z.long)
record_room s c Stages k z h = omega (arith, z.long)
record_room s c Locals k z h = omega (arith, z.long)
record_room s c Types k z h = omega (arith, z.long)
record_room s c Steps k z h = omega (arith, z.long)
record_room s c Ports k z h = omega (arith, z.long)

-- .. of which there are no more than an image may have
pub most_bytes : (s : List ℕ) (c : Counts) → Sized s c → length s ≤ 63893
most_bytes s c z = omega (arith, z.long, z.layers, z.interfaces, z.stages, z.locals, z.types, z.steps, z.ports, z.refs)

-- a record, and what is ahead of it
walk_step : (f : ℕ → Running → Option Running) (size n p : ℕ) (r : Running) → walk f size (suc n) p r ≡ after p (f p r) (λ q. walk f size n (p + size) q)
unfolding walk
walk_step f size n p r = refl

pub first_place : (c : Counts) (x : Section) → start_of c x ≡ place_of c x 0
first_place c x = let none : size_of x * 0 ≡ 0 = mul-zero (size_of x) in omega (arith, none)

pub next_place : (c : Counts) (x : Section) (k : ℕ) → place_of c x (k + 1) ≡ place_of c x k + size_of x
next_place c x k = let more : size_of x * (k + 1) ≡ size_of x * k + size_of x = ap (λ (n : ℕ). size_of x * n) (add-one k) ∙ mul-suc (size_of x) k in omega (arith, more)

-- what is ahead of record k of a section
pub record Walking (s : List ℕ) (c : Counts) (x : Section) (target : Result Running Fault) (k : ℕ) (r : Running) : Type 0 where
  pub within : k ≤ count_of c x
  pub ahead : walk (judge x s c) (size_of x) (count_of c x - k) (place_of c x k) r ≡ target

pub walking_start : (s : List ℕ) (c : Counts) (x : Section) (r : Running) → Walking s c x (walk_section s c x r) 0 r
walking_start s c x r =
    let all : count_of c x - 0 ≡ count_of c x = omega arith in
    record { within = omega arith; ahead = ap₂ (λ (n p : ℕ). walk (judge x s c) (size_of x) n p r) all (sym (first_place c x)) }

module _ {s : List ℕ} {c : Counts} {x : Section} {target : Result Running Fault} {k : ℕ} {r : Running} (w : Walking s c x target k r) (h : k < count_of c x) where
  split : after (place_of c x k) (judge x s c (place_of c x k) r) (λ q. walk (judge x s c) (size_of x) (count_of c x - (k + 1)) (place_of c x (k + 1)) q) ≡ target
  split =
      let one : count_of c x - k ≡ suc (count_of c x - (k + 1)) = omega arith in
      ap (λ (p : ℕ). after (place_of c x k) (judge x s c (place_of c x k) r) (λ q. walk (judge x s c) (size_of x) (count_of c x - (k + 1)) p q)) (next_place c x k)
      ∙ sym (walk_step (judge x s c) (size_of x) (count_of c x - (k + 1)) (place_of c x k) r)
      ∙ sym (ap (λ (n : ℕ). walk (judge x s c) (size_of x) n (place_of c x k) r) one)
      ∙ w.ahead

  -- what is ahead of it, by what is behind its judging
  abbrev ahead-by : Option Running → Result Running Fault
  ahead-by j = after (place_of c x k) j (λ q. walk (judge x s c) (size_of x) (count_of c x - (k + 1)) (place_of c x (k + 1)) q)

  pub walking_fault : {o : Option Running} {f : Fault} → o ≡ judge x s c (place_of c x k) r → ok_or {E = Fault} o (record { 0 = place_of c x k }) ≡ Err f → Err f ≡ target
  walking_fault {o} {f} e n = go o n (ap ahead-by e ∙ split)
    where
      go : (j : Option Running) → ok_or {E = Fault} j (record { 0 = place_of c x k }) ≡ Err f → ahead-by j ≡ target → Err f ≡ target
      go None n h = sym n ∙ h
      go (Some q) n h = let z : ◌≡◌ {A = ℕ} 0 1 = cc in absurd (omega arith)

  pub walking_on : {o : Option Running} {q : Running} → o ≡ judge x s c (place_of c x k) r → ok_or {E = Fault} o (record { 0 = place_of c x k }) ≡ Ok q → Walking s c x target (k + 1) q
  walking_on {o} {q} e n = record { within = omega arith; ahead = go o n (ap ahead-by e ∙ split) }
    where
      rest : Running → Result Running Fault
      rest q = walk (judge x s c) (size_of x) (count_of c x - (k + 1)) (place_of c x (k + 1)) q

      go : (j : Option Running) → ok_or {E = Fault} j (record { 0 = place_of c x k }) ≡ Ok q → ahead-by j ≡ target → rest q ≡ target
      go None n h = let z : ◌≡◌ {A = ℕ} 0 1 = cc in absurd (omega arith)
      go (Some y) n h = ap (λ (o : Result Running Fault). onwards o rest) (sym n) ∙ h

pub walking_end : {s : List ℕ} {c : Counts} {x : Section} {target : Result Running Fault} {k : ℕ} {r : Running} → Walking s c x target k r → count_of c x ≤ k → Ok r ≡ target
unfolding walk
walking_end {s} {c} {x} {target} {k} {r} w h =
    let none : count_of c x - k ≡ 0 = omega arith in
    sym (ap (λ (n : ℕ). walk (judge x s c) (size_of x) n (place_of c x k) r) none) ∙ w.ahead

-- the sections from the k-th on
pub record Passing (s : List ℕ) (c : Counts) (target : Result Running Fault) (k : ℕ) (r : Running) : Type 0 where
  pub within : k ≤ 7
  pub ahead : walk_all s c (drop k sections) r ≡ target

pub passing_start : (s : List ℕ) (c : Counts) (r : Running) → Passing s c (walk_all s c sections r) 0 r
passing_start s c r = record { within = omega arith; ahead = refl }

module _ {s : List ℕ} {c : Counts} {target : (Result Running Fault)} {k : ℕ} {r : Running} (w : Passing s c target k r) where
  -- the next section, and the rest
  here : k < 7 → onwards (walk_section s c (get_or sections k Ports) r) (λ q. walk_all s c (drop (k + 1) sections) q) ≡ target
  unfolding walk_all
  here h =
      ap (λ (n : ℕ). onwards (walk_section s c (get_or sections k Ports) r) (λ q. walk_all s c (drop n sections) q)) (add-one k)
      ∙ sym (ap (λ (l : List Section). walk_all s c l r) (drop-cons sections k Ports h)) ∙ w.ahead

  pub passing_fault : {p : Fault} → k < 7 → walk_section s c (get_or sections k Ports) r ≡ Err p → Err p ≡ target
  passing_fault h e = sym (ap (λ (o : Result Running Fault). onwards o (λ q. walk_all s c (drop (k + 1) sections) q)) e) ∙ here h

  pub passing_on : {q : Running} → k < 7 → walk_section s c (get_or sections k Ports) r ≡ Ok q → Passing s c target (k + 1) q
  passing_on h e =
      record {
        within = omega arith;
        ahead = sym (ap (λ (o : Result Running Fault). onwards o (λ q. walk_all s c (drop (k + 1) sections) q)) e) ∙ here h;
      }

  pub passing_end : 7 ≤ k → Ok r ≡ target
  unfolding walk_all
  passing_end h =
      let all : k ≡ 7 = omega (arith, w.within) in
      sym (ap (λ (n : ℕ). walk_all s c (drop n sections) r) all) ∙ w.ahead

-- behind the last section nothing is left
pub onwards_ok : (w : Result Running Fault) → onwards w (λ q. Ok q) ≡ w
onwards_ok (Err p) = refl
onwards_ok (Ok r) = refl
