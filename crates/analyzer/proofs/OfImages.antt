-- Demand 3, of images: whatever analyse takes is flat and well formed, and its report has what demand 3 says of each local.
use mathlib.Core.Path.{◌≡◌, refl, sym, ap, subst}
use mathlib.Core.Bool.{Bool, true, false}
use mathlib.Core.List.{List}
use Prim.Native.Nat.{ℕ, ◌≤◌}
use native.Mathlib.Omega.{arith}
use borrow.Author.Tests.{eqb-true, eqb-false}
use lib.Dec.{eqb}
use lib.ListN.{length}
use Rattle.records.specs.Bytes.{Bytes}
use Rattle.image.specs.Call.{Outcome, refusal, done, code_for}
use Rattle.image.specs.Check.{check_of}
use Rattle.image.specs.View.{view}
use Rattle.wellformed.proofs.Found.{flat_found, wanted}
use Rattle.wellformed.proofs.Viewed.{viewed}
use Rattle.report.specs.Report.{report_bytes}
use Rattle.analyzer.specs.Outcome.{analyse_of}
use Rattle.analyzer.specs.Analyze.{analyze}
use Rattle.analyzer.specs.Demand.{Demand}
use Rattle.analyzer.specs.Flat.{Flat}
use Rattle.analyzer.specs.Reported.{Reported}
use Rattle.analyzer.specs.Says.{Says}
use Rattle.analyzer.proofs.Demand.{demand}
use Rattle.analyzer.proofs.Reports.{reported, report_fits}
use Rattle.analyzer.proofs.Saying.{says_of}

module _ (span : ℕ) (s : List ℕ) (small : Bytes s) (h : (analyse_of span s).code ≡ 0) where
  -- analyse's code 0 is check's, with kind 1, and its bytes are the report's
  took : ((check_of s).code ≡ 0) × ((check_of s).kind ≡ 1) × ((analyse_of span s).bytes ≡ report_bytes (analyze span (view s)))
  unfolding analyse_of
  took = go (eqb (code_for 1 (check_of s)) 0) refl h
    where
      outcome : Bool → Outcome
      outcome b = elim b [ true ↦ done (report_bytes (analyze span (view s))) | false ↦ refusal (code_for 1 (check_of s)) (check_of s).place ]

      go : (b : Bool) → eqb (code_for 1 (check_of s)) 0 ≡ b → (outcome b).code ≡ 0
          → ((check_of s).code ≡ 0) × ((check_of s).kind ≡ 1) × ((outcome b).bytes ≡ report_bytes (analyze span (view s)))
      go true e k =
          let w : ((check_of s).code ≡ 0) × ((check_of s).kind ≡ 1) = wanted (check_of s) 1 (eqb-true _ 0 e) in
          (w.0, w.1, refl)
      go false e k = absurd (eqb-false _ 0 e k)

  pub source : Flat (view s)
  source = record { formed = viewed s small took.0; kind = flat_found s small took.0 took.1 }

  pub bytes : (analyse_of span s).bytes ≡ report_bytes (analyze span (view s))
  bytes = took.2

  -- demand 3, for each local
  pub demanded : (l : ℕ) → Demand (view s) l
  demanded = demand (view s) source.formed

  -- .. and the report has it
  pub reports : Reported span (view s)
  reports = reported (view s) span

  -- .. in its bytes, field by field
  pub says : Says span (view s) (analyse_of span s).bytes
  says = subst (Says span (view s)) (sym bytes) (says_of span (view s) source.formed)

  -- it has room wherever an image has
  pub fits : length (analyse_of span s).bytes ≤ 63893
  fits = omega (arith, ap length bytes, report_fits span (view s) source.formed)
