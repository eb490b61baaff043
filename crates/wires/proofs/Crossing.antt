-- The interfaces one by one: those behind, with those ahead, are what set_wires makes of all.
use mathlib.Core.Path.{◌≡◌, ◌∙◌, refl, sym, ap, ap₂}
use mathlib.Core.Bool.{Bool, true, false, not, ◌&&◌, ◌||◌, or-false, or_assoc}
use mathlib.Core.List.{List, [], ◌∷◌, ◌++◌, map, append_assoc, append-nil}
use Prim.Native.Nat.{ℕ, suc, ◌+◌, ◌<◌, ◌≤◌}
use native.Mathlib.Numerals.{add-one}
use native.Mathlib.Omega.{arith}
use lib.Dec.{eqb}
use lib.ListN.{length, get_or, set, take, drop, length-set, drop_of_length-le}
use lib.Seq.{drop-cons, take-suc-set, get_or-take, length-take-le}
use Rattle.std.specs.Prelude.{Option, Some, None}
use Rattle.effect.specs.declared.Effect.{Effect}
use Rattle.effect.specs.declared.Effect.TheVariants.{Pass, Never}
use Rattle.effect.specs.Effect.{barrier}
use Rattle.report.specs.Report.{Wire as Written, no_wire, half}
use Rattle.solve.specs.FixedPoint.{effect_at}
use Rattle.solve.specs.Tables.{effects_of}
use Rattle.analyzer.specs.Build.{get_transfer}
use Rattle.analyzer.specs.Wires.{is, output, input, triple, wire_of, set_wires, loops}
use Rattle.wires.specs.declared.Sides.{Sides}
use Rattle.wires.specs.Crossing.{wire_at, loops_at, Crossed}
use Rattle.wires.specs.Wires.{sides_at}

-- ---- one wire

module _ (interior exterior : Effect) where
  abbrev pub none : Bool
  none = is interior Never || is exterior Never || is interior Pass || is exterior Pass

  module _ (inv fork : Bool) where
    abbrev by : Bool → Written
    by b = elim b [ true ↦ no_wire | false ↦ triple inv (input fork interior exterior) (barrier interior) (output fork interior exterior) ]

    -- the triple either way round, with the code's flags
    pub wire-triple : {v o m n : Bool} → inv ≡ v → o ≡ output fork interior exterior → m ≡ barrier interior → n ≡ input fork interior exterior
        → none ≡ false → triple v n m o ≡ wire_of inv fork interior exterior
    wire-triple h x y z e = (λ i. triple (sym h i) (z i) (y i) (x i)) ∙ ap by (sym e)

-- ---- one interface

-- what its sides make
abbrev pub wire_between : Bool → Bool → Option Sides → Written
wire_between inv fork None = no_wire
wire_between inv fork (Some s) = wire_of inv fork s.interior s.exterior

abbrev pub loops_between : Option Sides → Bool
loops_between None = false
loops_between (Some s) = is s.interior Never || is s.exterior Never

module _ (es : List Effect) (i incoming : ℕ) where
  abbrev sides : Bool → Option Sides
  sides b = elim b [ true ↦ None | false ↦ Some (record { interior = effect_at es (get_transfer i).0; exterior = effect_at es (get_transfer i).1 }) ]

  wire-sides : (inv fork : Bool) → wire_between inv fork (sides_at es i incoming) ≡ wire_at inv fork es i incoming
  wire-sides inv fork = by (eqb incoming 0)
    where
      by : (b : Bool) → wire_between inv fork (sides b)
          ≡ elim b [ true ↦ no_wire | false ↦ wire_of inv fork (effect_at es (get_transfer i).0) (effect_at es (get_transfer i).1) ]
      by true = refl
      by false = refl

  loops-sides : loops_between (sides_at es i incoming) ≡ loops_at es i incoming
  loops-sides = by (eqb incoming 0)
    where
      by : (b : Bool) → loops_between (sides b)
          ≡ (not b && (is (effect_at es (get_transfer i).0) Never || is (effect_at es (get_transfer i).1) Never))
      by true = refl
      by false = refl

  -- with the code's sides
  module _ {s : Option Sides} (e : s ≡ sides_at es i incoming) where
    pub wired_by : (inv fork : Bool) {x : ℕ} → x ≡ half (wire_between inv fork s) → x ≡ half (wire_at inv fork es i incoming)
    wired_by inv fork p = p ∙ ap (λ (s : Option Sides). half (wire_between inv fork s)) e ∙ ap half (wire-sides inv fork)

    pub looped_by : {q : Bool} → q ≡ loops_between s → q ≡ loops_at es i incoming
    looped_by p = p ∙ ap loops_between e ∙ loops-sides

-- ---- all of them

pub record Crossing (n : ℕ) (incoming : List ℕ) (inv fork : Bool) (es wires₀ wires : List ℕ) (b : Bool) (i : ℕ) : Type 0 where
  pub reached : i ≤ n
  pub sized : length wires ≡ length wires₀
  pub wired : take i wires ++ map half (set_wires inv fork (effects_of es) i (drop i (take n incoming)))
      ≡ map half (set_wires inv fork (effects_of es) 0 (take n incoming))
  pub looped : (b || loops (effects_of es) i (drop i (take n incoming))) ≡ loops (effects_of es) 0 (take n incoming)

module _ {n : ℕ} {incoming : List ℕ} {inv fork : Bool} {es wires₀ wires : List ℕ} {b : Bool} {i : ℕ}
    (w : Crossing n incoming inv fork es wires₀ wires b i) where
  -- what is ahead, with the next interface first
  next : n ≤ length incoming → i < n → drop i (take n incoming) ≡ get_or incoming i 0 ∷ drop (i + 1) (take n incoming)
  next l h =
      drop-cons (take n incoming) i 0 (omega (arith, length-take-le n incoming l))
      ∙ ap₂ (λ (x k : ℕ). x ∷ drop k (take n incoming)) (get_or-take n incoming i 0 h) (sym (add-one i))

  pub crossing_on : {x : ℕ} {q : Bool} → n ≤ length incoming → n ≤ length wires₀ → i < n
      → x ≡ half (wire_at inv fork (effects_of es) i (get_or incoming i 0)) → q ≡ loops_at (effects_of es) i (get_or incoming i 0)
      → Crossing n incoming inv fork es wires₀ (set wires i x) (b || q) (i + 1)
  unfolding set_wires loops
  crossing_on {x} {q} l m h p r =
      record {
        reached = omega arith;
        sized = length-set wires i x ∙ w.sized;
        wired =
            ap₂ (λ (s : List ℕ) (k : ℕ). s ++ map half (set_wires inv fork (effects_of es) k (drop (i + 1) (take n incoming))))
            (ap (λ (k : ℕ). take k (set wires i x)) (add-one i) ∙ take-suc-set wires i x (omega (arith, w.sized)))
            (add-one i)
            ∙ append_assoc (take i wires) (x ∷ []) _
            ∙ ap (λ (y : ℕ). take i wires ++ (y ∷ map half (set_wires inv fork (effects_of es) (suc i) (drop (i + 1) (take n incoming))))) p
            ∙ ap (λ (s : List ℕ). take i wires ++ map half (set_wires inv fork (effects_of es) i s)) (sym (next l h))
            ∙ w.wired;
        looped =
            ap (λ (k : ℕ). (b || q) || loops (effects_of es) k (drop (i + 1) (take n incoming))) (add-one i)
            ∙ or_assoc b q _
            ∙ ap (λ (y : Bool). b || (y || loops (effects_of es) (suc i) (drop (i + 1) (take n incoming)))) r
            ∙ ap (λ (s : List ℕ). b || loops (effects_of es) i s) (sym (next l h))
            ∙ w.looped;
      }

  pub crossing_end : n ≤ length incoming → n ≤ i → Crossed n incoming inv fork es wires b
  unfolding set_wires loops
  crossing_end l h =
      record {
        wires =
            ap (λ (k : ℕ). take k wires) all
            ∙ sym (append-nil (take i wires))
            ∙ sym (ap (λ (s : List ℕ). take i wires ++ map half (set_wires inv fork (effects_of es) i s)) done)
            ∙ w.wired;
        loops = sym (or-false b) ∙ sym (ap (λ (s : List ℕ). b || loops (effects_of es) i s) done) ∙ w.looped;
      }
    where
      all : n ≡ i
      all = omega (arith, w.reached)

      done : drop i (take n incoming) ≡ []
      done = drop_of_length-le (take n incoming) {i = i} (omega (arith, length-take-le n incoming l))
