-- A list's entries in the bytes, and in the value that is read: the tests of them are the same.
use mathlib.Core.Path.{◌≡◌, ◌∙◌, refl, sym, ap}
use mathlib.Core.Bool.{Bool, true, ◌&&◌, and-true, and_assoc}
use mathlib.Core.List.{List}
use Prim.Native.Nat.{ℕ, zero, suc, ◌+◌, ◌*◌}
use native.Mathlib.Nat.{add-zero}
use native.Mathlib.Omega.{arith}
use lib.Dec.{ltb}
use borrow.Author.Tests.{eqb-true}
use Rattle.vir.specs.declared.interface.InterfaceKind.{InterfaceKind}
use Rattle.vir.specs.declared.interface.InterfaceKind.TheVariants.{Unconditional, Branch, Match, Closure, Inspect}
use Rattle.vir.specs.Arity.{allows}
use Rattle.vir.specs.Interface.{kind_number, entries_of}
use Rattle.records.specs.declared.layout.Counts.{Counts}
use Rattle.records.specs.declared.record.InterfaceRecord.{InterfaceRecord}
use Rattle.records.specs.declared.record.Run.{Run}
use Rattle.records.specs.Bytes.{u16_at}
use Rattle.records.specs.Every.{every}
use Rattle.rules.specs.Faults.{or_none, list_at, refs_below, closure_at, entries_named}
use Rattle.rules.proofs.Fits.{entries_inspect, entries_closure, entries-stages}
use Rattle.image.specs.Kind.{all}
use Rattle.image.specs.View.{collect, refs_from}
use Rattle.image.proofs.Gathered.{nth_ref}
use Rattle.wellformed.specs.WellFormed.{closure_fits, entries_fit}

every_first : (g : ℕ → Bool) (n : ℕ) → every (suc n) g ≡ (g 0 && every n (λ k. g (suc k)))
unfolding every
every_first g zero = sym (and-true (g 0))
every_first g (suc n) =
    ap (λ (b : Bool). b && g (suc n)) (every_first g n) ∙ and_assoc (g 0) (every n (λ k. g (suc k))) (g (suc n))

-- a test at every number below n, and of each of n values
every-all : {A : Type 0} (g : ℕ → Bool) (f : A → Bool) (h : ℕ → A) (a n : ℕ) → ((k : ℕ) → g k ≡ f (h (a + k))) → every n g ≡ all f (collect h a n)
unfolding every all collect
every-all g f h a zero same = refl
every-all g f h a (suc n) same =
    let first : g 0 ≡ f (h a) = same 0 ∙ ap (λ (k : ℕ). f (h k)) (add-zero a) in
    let rest = every-all (λ k. g (suc k)) f h (suc a) n (λ k. same (suc k) ∙ ap (λ (j : ℕ). f (h j)) (omega arith)) in
    every_first g n ∙ (λ i. first i && rest i)

module _ (s : List ℕ) (c : Counts) where
  pub refs_same : (run : Run) (n : ℕ) → refs_below s c run n ≡ all (λ t. ltb t n) (refs_from s c run)
  refs_same run n =
      every-all (λ k. ltb (u16_at s (list_at c run + 2 * k)) n) (λ t. ltb t n) (nth_ref s c) run.first run.count
      (λ k. ap (λ (p : ℕ). ltb (u16_at s p) n) (omega arith))

  closure_same : (run : Run) → run.count ≡ 3 → closure_at s (list_at c run) c.stages ≡ closure_fits c (refs_from s c run)
  unfolding collect all
  closure_same run e =
      let n : ℕ = c.stages in
      let first : Bool = ltb (u16_at s (list_at c run)) n in
      let fork : or_none n (u16_at s (list_at c run + 2)) ≡ or_none n (nth_ref s c (suc run.first)) =
      ap (λ (p : ℕ). or_none n (u16_at s p)) (omega arith) in
      let drop : or_none n (u16_at s (list_at c run + 4)) ≡ (or_none n (nth_ref s c (suc (suc run.first))) && true) =
      ap (λ (p : ℕ). or_none n (u16_at s p)) (omega arith) ∙ sym (and-true (or_none n (nth_ref s c (suc (suc run.first))))) in
      and_assoc first (or_none n (u16_at s (list_at c run + 2))) (or_none n (u16_at s (list_at c run + 4)))
      ∙ (λ i. first && (fork i && drop i))
      ∙ sym (ap (λ (n : ℕ). closure_fits c (collect (nth_ref s c) run.first n)) e)

  stages_same : (y : InterfaceRecord) → (y.kind ≡ 4 → ⊥) → (y.kind ≡ 3 → ⊥)
      → entries_named s c y ≡ all (λ t. ltb t c.stages) (refs_from s c y.list)
  stages_same y n m = sym (entries-stages s c y (list_at c y.list) refl n m) ∙ refs_same y.list c.stages

  pub entries_same : (k : InterfaceKind) (y : InterfaceRecord) → y.kind ≡ kind_number k → allows (entries_of k) y.list.count ≡ true
      → entries_named s c y ≡ entries_fit c k (refs_from s c y.list)
  entries_same Unconditional y e a = stages_same y (λ d. omega arith) (λ d. omega arith)
  entries_same Branch y e a = stages_same y (λ d. omega arith) (λ d. omega arith)
  entries_same Match y e a = stages_same y (λ d. omega arith) (λ d. omega arith)
  entries_same Closure y e a =
      sym (entries_closure s c y (list_at c y.list) refl (λ d. omega arith) e) ∙ closure_same y.list (eqb-true y.list.count 3 a)
  entries_same Inspect y e a = sym (entries_inspect s c y (list_at c y.list) refl e) ∙ refs_same y.list c.locals
