-- The promises can be kept: what a call writes has room in an output that it takes, so the output keeps its length.
use mathlib.Core.Path.{◌≡◌, ◌∙◌, refl, ap}
use mathlib.Core.Bool.{Bool, true, false, ◌&&◌}
use mathlib.Core.List.{List, []}
use Prim.Native.Nat.{ℕ, ◌≤◌}
use native.Mathlib.Omega.{arith}
use borrow.Author.Tests.{eqb-true, eqb-false, leb-true}
use lib.Dec.{eqb, leb}
use lib.ListN.{length, drop, length-append, length-drop}
use Rattle.records.specs.Bytes.{Bytes}
use Rattle.records.specs.Layout.{within}
use Rattle.records.proofs.Guards.{left_true}
use Rattle.image.specs.Call.{Outcome, refusal, done, code_for}
use Rattle.image.specs.Check.{check_of}
use Rattle.image.specs.Encode.{encode, counts_of_vir}
use Rattle.image.specs.View.{view}
use Rattle.image.specs.Vir.{Vir}
use Rattle.normalizer.specs.Outcome.{laid_out, normalise_of}
use Rattle.normalizer.specs.Normalize.{normalize}
use Rattle.normalizer.proofs.OfImages.{fits as normalise-fits}
use Rattle.report.specs.Report.{report_bytes}
use Rattle.analyzer.specs.Outcome.{analyse_of}
use Rattle.analyzer.specs.Analyze.{analyze}
use Rattle.analyzer.proofs.OfImages.{fits as analyse-fits}
use Rattle.ownership.specs.Promises.{Lent, roomy, outcome_in, leaves}

-- a refusal writes nothing
abbrev Silent : Outcome → Type 0
Silent o = (o.code ≡ 0 → ⊥) → o.bytes ≡ []

laid_silent : (v : Vir) → Silent (laid_out v)
laid_silent v = go (within (counts_of_vir v))
  where
    go : (b : Bool) → Silent (elim b [ true ↦ done (encode v) | false ↦ refusal 9 0 ])
    go true h = absurd (h refl)
    go false h = refl

pub normalise_silent : (s : List ℕ) → Silent (normalise_of s)
unfolding normalise_of
normalise_silent s = go (eqb (code_for 2 (check_of s)) 0)
  where
    go : (b : Bool) → Silent (elim b [ true ↦ laid_out (normalize (view s)) | false ↦ refusal (code_for 2 (check_of s)) (check_of s).place ])
    go true h = laid_silent (normalize (view s)) h
    go false h = refl

pub analyse_silent : (span : ℕ) (s : List ℕ) → Silent (analyse_of span s)
unfolding analyse_of
analyse_silent span s = go (eqb (code_for 1 (check_of s)) 0)
  where
    go : (b : Bool) → Silent (elim b [ true ↦ done (report_bytes (analyze span (view s))) | false ↦ refusal (code_for 1 (check_of s)) (check_of s).place ])
    go true h = absurd (h refl)
    go false h = refl

-- what fits when something is written fits always
fitting : (o : Outcome) → Silent o → (o.code ≡ 0 → length o.bytes ≤ 63893) → length o.bytes ≤ 63893
fitting o silent fits = go (eqb o.code 0) refl
  where
    go : (b : Bool) → eqb o.code 0 ≡ b → length o.bytes ≤ 63893
    go true e = fits (eqb-true o.code 0 e)
    go false e = omega (arith, ap length (silent (eqb-false o.code 0 e)))

kept : (lengths : List ℕ) (before : Lent) (o : Outcome) → length o.bytes ≤ 63893
    → length (leaves (outcome_in lengths before o) before).output ≡ length before.output
kept lengths before o h = go (leb 63893 (length before.output) && roomy lengths before.works) refl
  where
    outcome : Bool → Outcome
    outcome b = elim b [ true ↦ o | false ↦ refusal 1 0 ]

    go : (b : Bool) → (leb 63893 (length before.output) && roomy lengths before.works) ≡ b
        → length (leaves (outcome b) before).output ≡ length before.output
    go true e =
        length-append o.bytes (drop (length o.bytes) before.output)
        ∙ omega (arith, h, leb-true 63893 (length before.output) (left_true _ (roomy lengths before.works) e), length-drop (length o.bytes) before.output)
    go false e = refl

pub normalise_kept : (lengths s : List ℕ) (before : Lent) → Bytes s
    → length (leaves (outcome_in lengths before (normalise_of s)) before).output ≡ length before.output
normalise_kept lengths s before small =
    kept lengths before (normalise_of s) (fitting (normalise_of s) (normalise_silent s) (normalise-fits s small))

pub analyse_kept : (lengths : List ℕ) (span : ℕ) (s : List ℕ) (before : Lent) → Bytes s
    → length (leaves (outcome_in lengths before (analyse_of span s)) before).output ≡ length before.output
analyse_kept lengths span s before small =
    kept lengths before (analyse_of span s) (fitting (analyse_of span s) (analyse_silent span s) (analyse-fits span s small))
