-- The numbers of the interfaces, one behind the other; and the head, field by field.
use mathlib.Core.Path.{◌≡◌, ◌∙◌, refl, sym, ap, subst}
use mathlib.Core.Bool.{Bool, cond}
use mathlib.Core.List.{List, [], ◌∷◌, ◌++◌}
use Prim.Native.Nat.{ℕ, ◌+◌, ◌*◌, ◌<◌, min}
use native.Mathlib.Numerals.{add-one}
use native.Mathlib.Omega.{arith}
use borrow.Author.Tests.{ne_eqb}
use lib.ListN.{length, get_or, take}
use lib.Seq.{take-suc, length-take-le}
use Rattle.image.specs.Encode.{u16_bytes, u32_bytes}
use Rattle.image.specs.Kind.{concat}
use Rattle.image.proofs.Concat.{length-concat}
use Rattle.report.specs.Report.{Diag, Report, most, verdict, head_bytes}
use Rattle.report.specs.Writing.{Laid}
use Rattle.report.specs.Promises.{verdict_of, Numbers, Headed}
use Rattle.report.proofs.Laying.{concat_last, laid_none, laid_then}

pub counts-on : (counts : List ℕ) (i : ℕ) {at : ℕ} {a b c : List ℕ} → Laid at (concat u32_bytes (take i counts)) a b → i < length counts
    → Laid (at + 4 * i) (u32_bytes (get_or counts i 0)) b c → Laid at (concat u32_bytes (take (i + 1) counts)) a c
counts-on counts i {at} {a} {b} {c} x h y =
    let next : take (i + 1) counts ≡ take i counts ++ (get_or counts i 0 ∷ []) = ap (λ (k : ℕ). take k counts) (add-one i) ∙ take-suc counts i 0 h in
    subst (λ (l : List ℕ). Laid at l a c)
    (sym (ap (concat u32_bytes) next ∙ concat_last u32_bytes (take i counts) (get_or counts i 0)))
    (laid_then (concat u32_bytes (take i counts)) (u32_bytes (get_or counts i 0)) x
    (omega (arith, length-concat u32_bytes 4 (take i counts) (λ d k h. refl), length-take-le i counts (omega arith))) y)

pub counts_start : {at : ℕ} {s : List ℕ} → Laid at (concat u32_bytes []) s s
unfolding concat
counts_start = laid_none

-- the head's bytes by its numbers
abbrev pub head_of : ℕ → ℕ → ℕ → ℕ → ℕ → ℕ → ℕ → List ℕ
head_of interfaces locals verdict takes evaluations total kept =
    (86 ∷ 65 ∷ 82 ∷ [])
    ++ u16_bytes 1
    ++ u16_bytes interfaces
    ++ u16_bytes locals
    ++ (verdict ∷ [])
    ++ u32_bytes takes
    ++ u32_bytes evaluations
    ++ u32_bytes total
    ++ u16_bytes kept

verdict-is : (ds : List Diag) → verdict ds ≡ verdict_of (length ds)
verdict-is [] = refl
verdict-is (d ∷ ds) = sym (ap (λ (b : Bool). cond b 0 1) (ne_eqb (length (d ∷ ds)) 0 (λ e. omega arith)))

pub headed : {i l t e n v k : ℕ} {a b : List ℕ} → v ≡ verdict_of n → k ≡ min n most → Laid 0 (head_of i l v t e n k) a b → Headed i l t e n a b
headed {i} {l} {t} {e} {n} {v} {k} {a} {b} p q x = record { laid = go }
  where
    go : (r : Report) → Numbers r i l t e n → Laid 0 (head_bytes r) a b
    go r m =
        let verdicts : v ≡ verdict r.diags = p ∙ ap verdict_of (sym m.total) ∙ sym (verdict-is r.diags) in
        let kept : k ≡ min (length r.diags) most = q ∙ ap (λ (n : ℕ). min n most) (sym m.total) in
        subst (λ (l : List ℕ). Laid 0 l a b)
        (λ j. head_of (sym m.interfaces j) (sym m.locals j) (verdicts j) (sym m.takes j) (sym m.evaluations j) (sym m.total j) (kept j))
        x
