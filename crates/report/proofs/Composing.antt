-- The parts of a report, one behind the other, are the report: columns and diagnostics as the locals come, then the numbers of the interfaces, then the head.
use mathlib.Core.Path.{◌≡◌, ◌∙◌, refl, sym, ap, subst}
use mathlib.Core.Bool.{Bool, true, false}
use mathlib.Core.List.{List, [], ◌∷◌, ◌++◌, map}
use Prim.Native.Nat.{ℕ, suc, ◌+◌, ◌*◌, ◌-◌, ◌≤◌, ◌<◌, min}
use native.Mathlib.Nat.{zero-add, mul-zero, mul-suc}
use native.Mathlib.Omega.{arith}
use borrow.Author.Tests.{ltb-true, ltb-false}
use lib.Dec.{ltb}
use lib.ListN.{length, get_or, take, drop, length-append, length-take, length-drop, get_or-append, get_or-map}
use lib.Seq.{get_or-append-add, get_or-drop, get_or-take, ext_get_or}
use Rattle.records.specs.Bytes.{u8_at}
use Rattle.image.specs.Encode.{u32_bytes}
use Rattle.image.specs.Kind.{concat}
use Rattle.image.specs.Stands.{Stands}
use Rattle.image.proofs.Concat.{Even, length-concat}
use Rattle.image.proofs.Standing.{stands-none, stands_move}
use Rattle.report.specs.Fields.{Shaped, incoming_at, row_size, row_at, diag_at}
use Rattle.report.specs.Report.{Wire, Diag, Report, most, no_wire, half, row_bytes, diag_bytes, head_bytes, report_bytes}
use Rattle.report.specs.Writing.{Between, Laid, Column}
use Rattle.report.specs.Promises.{Saying, Underway}
use Rattle.report.proofs.Fields.{row-length, to_rows, to_diags, to_end, rows_even}
use Rattle.report.proofs.Halves.{row_fits}
use Rattle.report.proofs.Laying.{stands_both, stands-low, stands-high, between_same, between_wider}

-- lists of one length that stand one behind the other
stands-all : {A B : Type 0} {h : ℕ → B} (f : A → List B) (m : ℕ) (x : A) (a : ℕ) (xs : List A) → Even f m xs
    → ((i : ℕ) → i < length xs → Stands h (a + m * i) (f (get_or xs i x))) → Stands h a (concat f xs)
unfolding concat
stands-all f m x a [] e s = stands-none
stands-all f m x a (y ∷ ys) e s =
    stands_both (f y) (concat f ys) (stands_move (omega (arith, mul-zero m)) (s 0 (omega arith))) (ap (λ (n : ℕ). a + n) (e x 0 (omega arith)))
    (stands-all f m x (a + m) ys (λ d k b. e d (suc k) (omega (arith, b)))
    (λ i b. stands_move (omega (arith, mul-suc m i)) (s (suc i) (omega (arith, b)))))

module _ {interfaces locals : ℕ} where
  -- nothing yet
  pub underway_none : (s : List ℕ) → Underway interfaces locals 0 (λ i. []) [] s s
  unfolding row_bytes concat
  underway_none s =
      record { sized = refl; few = omega arith; long = λ i h. refl; rows = λ i h. stands-none; said = stands-none; behind = λ k h. refl }

  module _ {done : ℕ} {row : ℕ → List Wire} {ds : List Diag} {before a : List ℕ} (u : Underway interfaces locals done row ds before a) where
    -- a column
    pub underway_column : {halves b : List ℕ} (ws : List Wire) → map half ws ≡ take interfaces halves → done < locals
        → Column (incoming_at interfaces) (row_size locals) interfaces done halves a b
        → Underway interfaces locals (done + 1) (λ i. row i ++ (get_or ws i no_wire ∷ [])) ds before b
    underway_column {halves} {b} ws e l c =
        record {
          sized = c.kept.sized ∙ u.sized;
          few = omega arith;
          long = λ i h. omega (arith, length-append (row i) (get_or ws i no_wire ∷ []), u.long i h);
          rows = λ i h. c.row i h (row i) (get_or ws i no_wire) (u.long i h) (halved i h) (u.rows i h);
          said = stands-high c.kept (omega arith) u.said;
          behind = λ k h. c.kept.high k (omega arith) ∙ u.behind k h;
        }
      where
        halved : (i : ℕ) → i < interfaces → half (get_or ws i no_wire) ≡ get_or halves i 0
        halved i h = sym (get_or-map half ws i no_wire) ∙ ap (λ (l : List ℕ). get_or l i 0) e ∙ get_or-take interfaces halves i 0 h

    -- diagnostics
    pub underway_said : {r : ℕ} {b : List ℕ} (es : List Diag) → Saying (diag_at interfaces locals 0) (length ds) es a b r
        → Underway interfaces locals done row (ds ++ es) before b
    underway_said {b = b} es s =
        record {
          sized = new.kept.sized ∙ u.sized;
          few = u.few;
          long = u.long;
          rows = λ i h. stands-low new.kept (omega (arith, row-length (row i), u.long i h, u.few, row_fits (row_size locals) i interfaces h)) (u.rows i h);
          said = new.stands;
          behind = λ k h.
              new.kept.high k (omega (arith, many, length-append ds es, h))
              ∙ u.behind k (omega (arith, length-append ds es, h));
        }
      where
        new : Laid (diag_at interfaces locals 0) (concat diag_bytes (take most (ds ++ es))) a b
        new = s.on ds a refl (record { kept = between_same; stands = u.said })

        many : length (concat diag_bytes (take most (ds ++ es))) ≡ 9 * min most (length (ds ++ es))
        many = length-concat diag_bytes 9 (take most (ds ++ es)) (λ d k h. refl) ∙ ap (λ (n : ℕ). 9 * n) (length-take most (ds ++ es))

    -- what comes before the rows
    pub underway_front : {from : ℕ} {b : List ℕ} → Between from (incoming_at interfaces) a b → Underway interfaces locals done row ds before b
    underway_front x =
        record {
          sized = x.sized ∙ u.sized;
          few = u.few;
          long = u.long;
          rows = λ i h. stands-high x (omega arith) (u.rows i h);
          said = stands-high x (omega arith) u.said;
          behind = λ k h. x.high k (omega arith) ∙ u.behind k h;
        }

    -- rows that are the same, named otherwise
    pub underway_as : (other : ℕ → List Wire) → ((i : ℕ) → i < interfaces → row i ≡ other i) → Underway interfaces locals done other ds before a
    underway_as other e =
        record {
          sized = u.sized;
          few = u.few;
          long = λ i h. ap length (sym (e i h)) ∙ u.long i h;
          rows = λ i h. subst (λ (ws : List Wire). Stands (u8_at a) (row_at interfaces locals i) (row_bytes ws)) (e i h) (u.rows i h);
          said = u.said;
          behind = u.behind;
        }

module _ (r : Report) (shaped : Shaped r) where
  abbrev interfaces : ℕ
  interfaces = length r.incoming

  abbrev Done : List ℕ → List ℕ → Type 0
  Done = Underway interfaces r.locals r.locals (λ i. get_or r.wires i []) r.diags

  module _ {before after : List ℕ} (u : Done before after) (head : Stands (u8_at after) 0 (head_bytes r))
      (incoming : Stands (u8_at after) (incoming_at 0) (concat u32_bytes r.incoming)) where
    rows-stand : Stands (u8_at after) (incoming_at interfaces) (concat row_bytes r.wires)
    rows-stand =
        stands-all row_bytes (row_size r.locals) [] (incoming_at interfaces) r.wires (rows_even r shaped)
        (λ i h. u.rows i (omega (arith, shaped.rows, h)))

    whole : Stands (u8_at after) 0 (report_bytes r)
    unfolding report_bytes
    whole =
        stands_both (head_bytes r ++ concat u32_bytes r.incoming ++ concat row_bytes r.wires) (concat diag_bytes (take most r.diags))
        (stands_both (head_bytes r ++ concat u32_bytes r.incoming) (concat row_bytes r.wires)
        (stands_both (head_bytes r) (concat u32_bytes r.incoming) head refl incoming)
        (omega (arith, to_rows r)) rows-stand)
        (omega (arith, to_diags r shaped)) u.said

    all_there : length (report_bytes r) ≤ length before → after ≡ report_bytes r ++ drop (length (report_bytes r)) before
    all_there fits =
        ext_get_or 0 after (report_bytes r ++ rest)
        (omega (arith, u.sized, length-append (report_bytes r) rest, length-drop (length (report_bytes r)) before))
        (λ i h. at i (ltb i (length (report_bytes r))) refl)
      where
        rest : List ℕ
        rest = drop (length (report_bytes r)) before

        at : (i : ℕ) (q : Bool) → ltb i (length (report_bytes r)) ≡ q → get_or after i 0 ≡ get_or (report_bytes r ++ rest) i 0
        at i true q =
            let h : i < length (report_bytes r) = ltb-true i (length (report_bytes r)) q in
            ap (u8_at after) (sym (zero-add i)) ∙ whole.at 0 i h ∙ sym (get_or-append (report_bytes r) rest 0 i h)
        at i false q =
            let h : length (report_bytes r) ≤ i = ltb-false i (length (report_bytes r)) q in
            let back : length (report_bytes r) + (i - length (report_bytes r)) ≡ i = omega arith in
            u.behind i (omega (arith, to_end r shaped, h))
            ∙ ap (λ (k : ℕ). get_or before k 0) (sym back)
            ∙ sym (get_or-drop (length (report_bytes r)) before (i - length (report_bytes r)) 0)
            ∙ sym (get_or-append-add (report_bytes r) rest (i - length (report_bytes r)) 0)
            ∙ ap (λ (k : ℕ). get_or (report_bytes r ++ rest) k 0) back

  -- once the wires and the diagnostics of all locals are there, the numbers of the interfaces and the head make it the report
  pub composed : {before a b c : List ℕ} → length (report_bytes r) ≤ length before → Done before a
      → Laid (incoming_at 0) (concat u32_bytes r.incoming) a b → Laid 0 (head_bytes r) b c
      → c ≡ report_bytes r ++ drop (length (report_bytes r)) before
  composed {before} {a} {b} {c} fits u incoming head =
      let numbers : length (concat u32_bytes r.incoming) ≡ 4 * interfaces = length-concat u32_bytes 4 r.incoming (λ d k h. refl) in
      let counted : Between (incoming_at 0) (incoming_at interfaces) a b = between_wider incoming.kept (omega arith) (omega arith) in
      let headed : Between 0 (incoming_at interfaces) b c = between_wider head.kept (omega arith) (omega arith) in
      let there : Done before b = underway_front u counted in
      all_there (underway_front there headed) head.stands (stands-high head.kept (omega arith) incoming.stands) fits
