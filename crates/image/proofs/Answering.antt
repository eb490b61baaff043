-- The answers in their order: which of them is given, by what the code has found out.
use Rattle.std.specs.Prelude.{Ok}
use mathlib.Core.Path.{◌≡◌, ◌∙◌, refl, sym, ap}
use mathlib.Core.Bool.{Bool, true, false, not, ◌&&◌}
use mathlib.Core.List.{List}
use Prim.Native.Nat.{ℕ, ◌≤◌, ◌<◌}
use lib.Dec.{eqb, ltb, leb}
use native.Mathlib.Omega.{arith}
use lib.ListN.{length, replicate, length-replicate}
use borrow.Author.Tests.{lt-ltb, le-ltb, eq-eqb, ne_eqb, leb-true, eqb-false, not-true}
use Rattle.image.specs.declared.answer.Answer.{Answer}
use Rattle.records.specs.declared.layout.Counts.{Counts}
use Rattle.records.specs.declared.running.Running.{Running}
use Rattle.image.specs.Check.{marked, owned, kind_answer, record_answer, check_of}
use Rattle.image.specs.Answer.{refused}
use Rattle.judging.specs.Judge.{walk_all}
use Rattle.image.specs.Kind.{kind_of_vir}
use Rattle.image.specs.LayerRules.{layer_rules}
use Rattle.records.specs.Layout.{counts_of, within, length_of, sections, Sized}
use Rattle.image.specs.View.{view_of}
use Rattle.image.specs.Vir.{Vir}
use Rattle.records.proofs.Guards.{left_true, right_true}

-- the kind's answer by its tests
abbrev pub by_kind : Bool → Bool → Bool → Answer
by_kind neither flat rules =
    elim neither [
      | true ↦ refused 7 0
      | false ↦
          elim flat [
            | true ↦ record { code = 0; place = 0; kind = 1 }
            | false ↦ elim rules [ true ↦ record { code = 0; place = 0; kind = 2 } | false ↦ refused 8 0 ]
          ]
    ]

module _ (v : Vir) where
  pub kind_neither : kind_of_vir v ≡ 0 → refused 7 0 ≡ kind_answer v
  kind_neither h = sym (ap (λ (b : Bool). by_kind b (eqb (kind_of_vir v) 1) (layer_rules v)) (eq-eqb _ _ h))

  module _ (some : kind_of_vir v ≡ 0 → ⊥) where
    pub kind_is_flat : kind_of_vir v ≡ 1 → record { code = 0; place = 0; kind = 1 } ≡ kind_answer v
    kind_is_flat h = sym (λ i. by_kind (ne_eqb _ _ some i) (eq-eqb _ _ h i) (layer_rules v))

    pub kind_is_layered : (kind_of_vir v ≡ 1 → ⊥) → layer_rules v ≡ true → record { code = 0; place = 0; kind = 2 } ≡ kind_answer v
    kind_is_layered h r = sym (λ i. by_kind (ne_eqb _ _ some i) (ne_eqb _ _ h i) (r i))

    pub kind_breaks : (kind_of_vir v ≡ 1 → ⊥) → layer_rules v ≡ false → refused 8 0 ≡ kind_answer v
    kind_breaks h r = sym (λ i. by_kind (ne_eqb _ _ some i) (ne_eqb _ _ h i) (r i))

-- what remains when no record is at fault
abbrev pub by_owner : Bool → ℕ → Answer → Answer
by_owner all-owned place then = elim all-owned [ true ↦ then | false ↦ refused 6 place ]

module _ (s : List ℕ) (c : Counts) (r : Running) where
  pub records_owned : owned c r ≡ true → kind_answer (view_of s c) ≡ record_answer s c (Ok r)
  records_owned h = sym (ap (λ (b : Bool). by_owner b (length s) (kind_answer (view_of s c))) h)

  pub records_unowned : owned c r ≡ false → refused 6 (length s) ≡ record_answer s c (Ok r)
  records_unowned h = sym (ap (λ (b : Bool). by_owner b (length s) (kind_answer (view_of s c))) h)

-- the answer by the header's tests
abbrev pub by_header : Bool → Bool → Bool → Bool → Answer → Answer
by_header short mark count long then =
    elim short [
      | true ↦ refused 2 0
      | false ↦
          elim mark [
            | false ↦ refused 3 0
            | true ↦
                elim count [
                  | false ↦ refused 4 0
                  | true ↦ elim long [ false ↦ refused 5 0 | true ↦ then ]
                ]
          ]
    ]

module _ (s : List ℕ) where
  abbrev pub records : Answer
  records = record_answer s (counts_of s) (walk_all s (counts_of s) sections (record { refs = 0; steps = 0; ports = 0 }))

  pub by_tests : by_header (ltb (length s) 21) (marked s) (within (counts_of s)) (eqb (length s) (length_of (counts_of s))) records ≡ check_of s
  unfolding check_of
  by_tests = refl

  pub check_short : length s < 21 → refused 2 0 ≡ check_of s
  check_short h =
      sym (ap (λ (b : Bool). by_header b (marked s) (within (counts_of s)) (eqb (length s) (length_of (counts_of s))) records) (lt-ltb _ _ h)) ∙ by_tests

  module _ (full : 21 ≤ length s) where
    pub check_unmarked : marked s ≡ false → refused 3 0 ≡ check_of s
    check_unmarked h =
        sym (λ i. by_header (le-ltb (length s) 21 full i) (h i) (within (counts_of s)) (eqb (length s) (length_of (counts_of s))) records) ∙ by_tests

    module _ (mark : marked s ≡ true) where
      pub check_count : within (counts_of s) ≡ false → refused 4 0 ≡ check_of s
      check_count h =
          sym (λ i. by_header (le-ltb (length s) 21 full i) (mark i) (h i) (eqb (length s) (length_of (counts_of s))) records) ∙ by_tests

      module _ (counted : within (counts_of s) ≡ true) where
        pub check_length : (length s ≡ length_of (counts_of s) → ⊥) → refused 5 0 ≡ check_of s
        check_length h = sym (λ i. by_header (le-ltb (length s) 21 full i) (mark i) (counted i) (ne_eqb _ _ h i) records) ∙ by_tests

        pub check_records : length s ≡ length_of (counts_of s) → record_answer s (counts_of s) (walk_all s (counts_of s) sections (record { refs = 0; steps = 0; ports = 0 })) ≡ check_of s
        check_records h = sym (λ i. by_header (le-ltb (length s) 21 full i) (mark i) (counted i) (eq-eqb _ _ h i) records) ∙ by_tests

-- the first so many tests of the counts
abbrev first1 : Counts → Bool
first1 c = not (eqb c.interfaces 0) && leb c.layers 64

abbrev first2 : Counts → Bool
first2 c = first1 c && leb c.interfaces 256

abbrev first3 : Counts → Bool
first3 c = first2 c && leb c.stages 256

abbrev first4 : Counts → Bool
first4 c = first3 c && leb c.locals 256

abbrev first5 : Counts → Bool
first5 c = first4 c && leb c.types 1024

abbrev first6 : Counts → Bool
first6 c = first5 c && leb c.steps 2048

abbrev first7 : Counts → Bool
first7 c = first6 c && leb c.ports 2560

abbrev first8 : Counts → Bool
first8 c = first7 c && leb c.refs 2048

-- counts within their maxima, and the length that they give
pub within-sized : (s : List ℕ) (c : Counts) → within c ≡ true → length s ≡ length_of c → Sized s c
within-sized s c h l =
    let h7 : first7 c ≡ true = left_true (first7 c) _ h in
    let h6 : first6 c ≡ true = left_true (first6 c) _ h7 in
    let h5 : first5 c ≡ true = left_true (first5 c) _ h6 in
    let h4 : first4 c ≡ true = left_true (first4 c) _ h5 in
    let h3 : first3 c ≡ true = left_true (first3 c) _ h4 in
    let h2 : first2 c ≡ true = left_true (first2 c) _ h3 in
    let h1 : first1 c ≡ true = left_true (first1 c) _ h2 in
    record {
      long = l;
      layers = leb-true c.layers 64 (right_true (not (eqb c.interfaces 0)) _ h1);
      interfaces = leb-true c.interfaces 256 (right_true (first1 c) _ h2);
      stages = leb-true c.stages 256 (right_true (first2 c) _ h3);
      locals = leb-true c.locals 256 (right_true (first3 c) _ h4);
      types = leb-true c.types 1024 (right_true (first4 c) _ h5);
      steps = leb-true c.steps 2048 (right_true (first5 c) _ h6);
      ports = leb-true c.ports 2560 (right_true (first6 c) _ h7);
      refs = leb-true c.refs 2048 (right_true (first7 c) _ h);
    }

-- the largest image
-- the first test of the counts
pub some-interface : (c : Counts) → within c ≡ true → 0 < c.interfaces
some-interface c h =
    omega (
      arith,
      eqb-false c.interfaces 0 (not-true _ (left_true _ _ (left_true _ _ (left_true _ _ (left_true _ _ (left_true _ _ (left_true _ _ (left_true _ _ (left_true _ _ h))))))))),
    )

pub within-most : (c : Counts) → within c ≡ true → length_of c ≤ 63893
within-most c h =
    let z : Sized (replicate (length_of c) 0) c = within-sized (replicate (length_of c) 0) c h (length-replicate (length_of c) 0) in
    omega (arith, z)
