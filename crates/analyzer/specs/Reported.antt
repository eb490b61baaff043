-- What of each local stands in the report: that of a processed one is answersFor's, of another nothing.
use Rattle.std.specs.Prelude.{◌≡◌, Bool, true, false, not, cond, ◌&&◌, ◌||◌, List, [], ◌∷◌, ◌++◌, ℕ, ◌+◌, ◌<◌, eqb, length, get_or}
use Rattle.image.specs.Kind.{concat}
use Rattle.image.specs.View.{collect}
use Rattle.image.specs.Vir.{Vir}
use Rattle.report.specs.Report.{Diag, no_wire, bit}
use Rattle.solve.specs.Least.{total}
use Rattle.analyzer.specs.Analyze.{Answers, InfiniteLoop, answers_for, processed, wire_in, analyze}
use Rattle.analyzer.specs.Sweep.{incoming_of}

abbrev pub answers_in : Vir → ℕ → List Answers
answers_in v l = elim (processed v (incoming_of v) l) [ true ↦ answers_for v l ∷ [] | false ↦ [] ]

abbrev pub takes_in : List Answers → ℕ
takes_in [] = 0
takes_in (a ∷ as') = a.takes

abbrev pub evaluations_in : List Answers → ℕ
evaluations_in [] = 0
evaluations_in (a ∷ as') = a.evaluations

abbrev pub loops_in : List Answers → Bool
loops_in [] = false
loops_in (a ∷ as') = a.loops

abbrev pub diags_in : List Answers → List Diag
diags_in [] = []
diags_in (a ∷ as') = a.diags

-- whether any of some locals meets Never at an interface that is come to
unfoldable pub any_loops : Vir → List ℕ → Bool
any_loops v [] = false
any_loops v (l ∷ ls) = loops_in (answers_in v l) || any_loops v ls

-- how often InfiniteLoop stands among diagnostics
unfoldable pub infinite : List Diag → ℕ
infinite [] = 0
infinite (d ∷ ds) = cond (eqb d.kind 1) 1 0 + infinite ds

abbrev pub locals : Vir → List ℕ
locals v = collect (λ l. l) 0 (length v.locals)

-- whether a local is the first of the processed ones that meets Never
abbrev pub loops_first : Vir → ℕ → Bool
loops_first v l = loops_in (answers_in v l) && not (any_loops v (collect (λ l. l) 0 l))

-- what is said while a local is processed: InfiniteLoop if it is the first that loops, then its own
abbrev pub diags_of : ℕ → Vir → ℕ → List Diag
diags_of span v l = elim (loops_first v l) [ true ↦ InfiniteLoop span l ∷ [] | false ↦ [] ] ++ diags_in (answers_in v l)

-- the diagnostics in all, in number order of the locals
abbrev pub all_diags : ℕ → Vir → List Diag
all_diags span v = concat (diags_of span v) (locals v)

pub record Reported (span : ℕ) (v : Vir) : Type 0 where
  pub wires : (i l : ℕ) → i < length v.interfaces → l < length v.locals
      → get_or (get_or (analyze span v).wires i []) l no_wire ≡ wire_in i (answers_in v l)
  -- sums over the processed locals
  pub takes : (analyze span v).takes ≡ total (λ l. takes_in (answers_in v l)) (locals v)
  pub evaluations : (analyze span v).evaluations ≡ total (λ l. evaluations_in (answers_in v l)) (locals v)
  -- at most once a call, and exactly if a processed local says so
  pub loops : infinite (analyze span v).diags ≡ bit (any_loops v (locals v))
  -- that local by local they are these
  pub diags : (analyze span v).diags ≡ all_diags span v
