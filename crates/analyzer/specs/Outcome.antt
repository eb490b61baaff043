-- What analyse answers to an image, of whatever bytes.
use Rattle.std.specs.Prelude.{true, false, List, ℕ, eqb}
use Rattle.image.specs.Call.{Outcome, refusal, done, code_for}
use Rattle.image.specs.Check.{check_of}
use Rattle.image.specs.View.{view}
use Rattle.report.specs.Report.{report_bytes}
use Rattle.analyzer.specs.Analyze.{analyze}

-- a flat image and the call's span to the report
unfoldable pub analyse_of : ℕ → List ℕ → Outcome
analyse_of span s =
    elim (eqb (code_for 1 (check_of s)) 0) [
      | true ↦ done (report_bytes (analyze span (view s)))
      | false ↦ refusal (code_for 1 (check_of s)) (check_of s).place
    ]
