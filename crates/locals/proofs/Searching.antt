-- Two searches that are told by `any`: a number in a list of an image, and a stage that declares a local.
use mathlib.Core.Path.{◌≡◌, ◌∙◌, refl, sym, ap}
use mathlib.Core.Bool.{Bool, ◌||◌}
use mathlib.Core.List.{List}
use Prim.Native.Nat.{ℕ, zero, suc, ◌+◌}
use native.Mathlib.Numerals.{add-one}
use native.Mathlib.Omega.{arith}
use lib.Dec.{eqb}
use lib.ListN.{length, get_or, take, drop, drop_of_length-le}
use lib.Seq.{drop-cons, get_or-take}
use Rattle.std.specs.List.{list_any, range_with_len}
use Rattle.records.specs.declared.layout.Counts.{Counts}
use Rattle.records.specs.declared.record.StageRecord.{StageRecord}
use Rattle.image.specs.View.{collect, view}
use Rattle.image.specs.Vir.{Stage, Vir, stage_of}
use Rattle.reading.specs.Read.{StageRead, ref_nth}
use Rattle.reading.specs.Image.{Image}
use Rattle.reading.proofs.Reading.{stages-many}
use Rattle.analyzer.specs.Analyze.{declared}
use Rattle.analyzer.specs.Fill.{contains}
use Rattle.locals.specs.Declared.{declared_in}

-- a number among n values of f, from the k-th on
contains_any : (f : ℕ → ℕ) (x k n : ℕ) → list_any (λ j. eqb (f j) x) (range_with_len k n) ≡ contains (collect f k n) x
unfolding contains collect
contains_any f x k zero = refl
contains_any f x k (suc n) =
    ap (λ b. eqb (f k) x || b) (ap (λ (i : ℕ). list_any (λ j. eqb (f j) x) (range_with_len i n)) (add-one k) ∙ contains_any f x (suc k) n)

-- a stage among those of an image
declared_any : (incoming : List ℕ) (l : ℕ) (v : Vir) (k n : ℕ) → k + n ≡ length v.stages
    → list_any (λ t. declared_in incoming l (stage_of v t)) (range_with_len k n) ≡ declared incoming l (drop k v.stages)
unfolding declared
declared_any incoming l v k zero e = sym (ap (declared incoming l) (drop_of_length-le v.stages (omega arith)))
declared_any incoming l v k (suc n) e =
    ap (λ b. declared_in incoming l (stage_of v k) || b)
    (ap (λ (i : ℕ). list_any (λ t. declared_in incoming l (stage_of v t)) (range_with_len i n)) (add-one k) ∙ declared_any incoming l v (suc k) n (omega arith))
    ∙ sym (ap (declared incoming l) (drop-cons v.stages k _ (omega arith)))

-- what a stage declares, as it was read
module _ {s : List ℕ} {c : Counts} {t : ℕ} {r : StageRecord} (l : ℕ) (read : StageRead s c t r) where
  pub declared_as : {b : Bool} → b ≡ list_any (λ k. eqb (ref_nth s c k) l) (range_with_len r.declarations.first r.declarations.count)
      → b ≡ contains (stage_of (view s) t).declarations l
  declared_as p =
      p ∙ contains_any (ref_nth s c) l r.declarations.first r.declarations.count ∙ sym (ap (λ (t : Stage). contains t.declarations l) read.value)

  -- .. and whether its interface is come to
  pub counted : (incoming : List ℕ) → get_or (take c.interfaces incoming) (stage_of (view s) t).interface 0 ≡ get_or incoming r.interface.0 0
  counted incoming =
      ap (λ (t : Stage). get_or (take c.interfaces incoming) t.interface 0) read.value
      ∙ get_or-take c.interfaces incoming r.interface.0 0 read.facts.interface

pub declared_of : {s : List ℕ} {c : Counts} (m : Image s c) (incoming : List ℕ) (l : ℕ) {b : Bool}
    → b ≡ list_any (λ t. declared_in incoming l (stage_of (view s) t)) (range_with_len 0 c.stages) → b ≡ declared incoming l (view s).stages
declared_of {s} {c} m incoming l p = p ∙ declared_any incoming l (view s) 0 c.stages (omega (arith, stages-many m))
