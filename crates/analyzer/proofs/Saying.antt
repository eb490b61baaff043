-- The bytes of a report say what the definitions say of the image, field by field.
use mathlib.Core.Path.{◌≡◌, ◌∙◌, sym, ap, subst}
use mathlib.Core.Bool.{Bool}
use mathlib.Core.List.{List}
use Prim.Native.Nat.{ℕ, ◌<◌, min}
use native.Mathlib.Omega.{arith}
use lib.ListN.{length, get_or}
use Rattle.image.specs.Vir.{Vir}
use Rattle.wellformed.specs.WellFormed.{WellFormed}
use Rattle.report.specs.Fields.{Fields, row_at, diag_at, half_at, diag_of}
use Rattle.report.specs.Report.{Diag, most, verdict, half, report_bytes}
use Rattle.report.proofs.Fields.{fields}
use Rattle.analyzer.specs.Analyze.{wire_in, analyze}
use Rattle.analyzer.specs.Reported.{Reported, answers_in}
use Rattle.analyzer.specs.Says.{Says}
use Rattle.analyzer.proofs.Demand.{demand}
use Rattle.analyzer.proofs.Reports.{answers_if, reported, shaped}
use Rattle.analyzer.proofs.Sweeps.{incoming-sized}

module _ (span : ℕ) (v : Vir) where
  abbrev s : List ℕ
  s = report_bytes (analyze span v)

  written : Fields (analyze span v) s
  written = fields (analyze span v) (shaped v span)

  report : Reported span v
  report = reported v span

  -- the half of a local is that of its answers
  half_is : (i l : ℕ) → i < length v.interfaces → l < length v.locals
      → half_at s (row_at (length v.interfaces) (length v.locals) i) l ≡ half (wire_in i (answers_in v l))
  unfolding analyze
  half_is i l h k =
      ap (λ (n : ℕ). half_at s (row_at n (length v.locals) i) l) (sym (incoming-sized v))
      ∙ written.wires i l (omega (arith, incoming-sized v)) k
      ∙ ap half (report.wires i l h k)

  pub says_of : WellFormed v → Says span v s
  unfolding analyze
  says_of formed =
      record {
        interfaces = written.interfaces ∙ incoming-sized v;
        locals = written.locals;
        verdict = written.verdict ∙ ap verdict report.diags;
        takes = written.takes ∙ report.takes;
        evaluations = written.evaluations ∙ report.evaluations;
        total = written.total ∙ ap length report.diags;
        kept = written.kept ∙ ap (λ (ds : List Diag). min (length ds) most) report.diags;
        incoming = λ i h. written.incoming i (omega (arith, incoming-sized v));
        wires = λ i l h k p f least.
            half_is i l h k
            ∙ ap (λ (b : Bool). half (wire_in i (answers_if v l b))) p
            ∙ ap half ((demand v formed l).wires f least i h);
        unprocessed = λ i l h k p. half_is i l h k ∙ ap (λ (b : Bool). half (wire_in i (answers_if v l b))) p;
        diags = λ k d h.
            ap (λ (n : ℕ). diag_of s (diag_at n (length v.locals) k)) (sym (incoming-sized v))
            ∙ written.diags k d (subst (λ (ds : List Diag). k < min (length ds) most) (sym report.diags) h)
            ∙ ap (λ (ds : List Diag). get_or ds k d) report.diags;
      }
