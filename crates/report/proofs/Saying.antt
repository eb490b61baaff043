-- A diagnostic more: the first 1,024 are laid one behind the other, and the others are only counted.
use mathlib.Core.Path.{◌≡◌, ◌∙◌, refl, sym, ap, subst}
use mathlib.Core.List.{List, [], ◌∷◌, ◌++◌, append-nil, append_assoc}
use Prim.Native.Nat.{ℕ, ◌+◌, ◌*◌, ◌≤◌, ◌<◌}
use native.Mathlib.Omega.{arith}
use lib.ListN.{length, take, length-append}
use lib.Seq.{take_all, take-append-le}
use Rattle.image.specs.Kind.{concat}
use Rattle.image.proofs.Concat.{length-concat}
use Rattle.report.specs.Report.{Diag, most, diag_bytes}
use Rattle.report.specs.Writing.{Laid, Said}
use Rattle.report.specs.Promises.{Saying}
use Rattle.report.proofs.Laying.{concat_last, laid_then}

-- where the kept ones are the same, so is what was said
said_as : (ds es : List Diag) {at : ℕ} {before after : List ℕ} → take most es ≡ take most ds → Said at ds before after → Said at es before after
said_as ds es {at} {before} {after} e x = subst (λ (l : List Diag). Laid at (concat diag_bytes l) before after) (sym e) x

pub saying_past : {at said : ℕ} {d : Diag} {s : List ℕ} → most ≤ said → Saying at said (d ∷ []) s s (said + 1)
saying_past {d = d} h =
    record { counted = refl; on = λ ds before n x. said_as ds (ds ++ (d ∷ [])) (take-append-le most ds (d ∷ []) (omega (arith, n, h))) x }

pub saying_put : {at said : ℕ} {d : Diag} {a b : List ℕ} → said < most → Laid (at + 9 * said) (diag_bytes d) a b → Saying at said (d ∷ []) a b (said + 1)
saying_put {at} {said} {d} {a} {b} h y = record { counted = refl; on = on }
  where
    on : (ds : List Diag) (before : List ℕ) → length ds ≡ said → Said at ds before a → Said at (ds ++ (d ∷ [])) before b
    on ds before n x =
        let few : take most ds ≡ ds = take_all most ds (omega (arith, n, h)) in
        let more : take most (ds ++ (d ∷ [])) ≡ ds ++ (d ∷ []) =
        take_all most (ds ++ (d ∷ [])) (omega (arith, n, h, length-append ds (d ∷ []))) in
        let old : Laid at (concat diag_bytes ds) before a = subst (λ (l : List Diag). Laid at (concat diag_bytes l) before a) few x in
        subst (λ (l : List ℕ). Laid at l before b)
        (sym (ap (concat diag_bytes) more ∙ concat_last diag_bytes ds d))
        (laid_then (concat diag_bytes ds) (diag_bytes d) old (omega (arith, length-concat diag_bytes 9 ds (λ d k h. refl), n)) y)

-- nothing is said
pub saying_none : {at said : ℕ} {s : List ℕ} → Saying at said [] s s said
saying_none {at} {said} {s} =
    record { counted = omega arith; on = λ ds before n x. subst (λ (l : List Diag). Said at l before s) (sym (append-nil ds)) x }

-- some, and then some more
pub saying_then : {at n m k : ℕ} (es fs : List Diag) {a b c : List ℕ} → Saying at n es a b m → Saying at m fs b c k → Saying at n (es ++ fs) a c k
saying_then {at} es fs {c = c} x y =
    record {
      counted = omega (arith, x.counted, y.counted, length-append es fs);
      on = λ ds before n z.
          subst (λ (l : List Diag). Said at l before c) (append_assoc ds es fs)
          (y.on (ds ++ es) before (omega (arith, n, x.counted, length-append ds es)) (x.on ds before n z));
    }
