use mathlib.Core.Path.{◌≡◌, ◌∙◌, refl, sym, ap}
use mathlib.Core.Bool.{true}
use Rattle.records.specs.declared.layout.Counts.{Counts}
use Rattle.records.specs.Layout.{within, length_of, sections}
use Rattle.judging.specs.Judge.{walk_all}
use Rattle.image.specs.Check.{record_answer}
use Rattle.image.proofs.Answering.{check_short, check_unmarked, check_count, check_length, check_records, within-sized}
use Rattle.image.proofs.check.laid_out.Goals as goal

pub returns-then-bytes-lt-HEAD : goal.returns-then-bytes-lt-HEAD
returns-then-bytes-lt-HEAD c = check_short c.args.bytes.now c.if-bytes-lt-HEAD.true

pub returns-then-not-marked : goal.returns-then-not-marked
returns-then-not-marked c = check_unmarked c.args.bytes.now c.if-bytes-lt-HEAD.false (sym c.marked.ensures ∙ c.if-not-marked.true)

pub returns-then-not-within : goal.returns-then-not-within
returns-then-not-within c =
    check_count c.args.bytes.now c.if-bytes-lt-HEAD.false (sym c.marked.ensures ∙ c.if-not-marked.false)
    (sym (c.within.ensures ∙ ap within c.read-counts.ensures) ∙ c.if-not-within.true)

pub returns-then-bytes-length : goal.returns-then-bytes-length
returns-then-bytes-length c =
    check_length c.args.bytes.now c.if-bytes-lt-HEAD.false (sym c.marked.ensures ∙ c.if-not-marked.false)
    (sym (c.within.ensures ∙ ap within c.read-counts.ensures) ∙ c.if-not-within.false)
    (λ e. c.if-bytes-length.true (e ∙ sym (c.length.ensures ∙ ap length_of c.read-counts.ensures)))

pub invariant_of-result : goal.invariant_of-result
invariant_of-result c =
    let fine : within c.read-counts.result ≡ true = sym c.within.ensures ∙ c.if-not-within.false in
    record {
      sized = within-sized c.args.bytes.now c.read-counts.result fine (c.if-bytes-length.false ∙ c.length.ensures);
    }

pub returns : goal.returns
returns c =
    let s = c.args.bytes.now in (
      refl,
      sym (check_records s c.if-bytes-lt-HEAD.false (sym c.marked.ensures ∙ c.if-not-marked.false)
          (sym (c.within.ensures ∙ ap within c.read-counts.ensures) ∙ c.if-not-within.false)
          (c.if-bytes-length.false ∙ c.length.ensures ∙ ap length_of c.read-counts.ensures))
          ∙ sym (ap (λ (x : Counts). record_answer s x (walk_all s x sections (record { refs = 0; steps = 0; ports = 0 }))) c.read-counts.ensures),
    )
