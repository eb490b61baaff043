-- Document 01's number of a case is the place from which the case is read.
use Rattle.std.specs.Prelude.{None, Option, Some}
use mathlib.Core.Path.{◌≡◌, ◌∙◌, refl, sym, ap}
use mathlib.Core.Bool.{Bool, true, false, ◌&&◌}
use mathlib.Core.List.{List, [], ◌∷◌}
use Prim.Native.Nat.{ℕ, zero, suc, ◌+◌, ◌<◌}
use native.Mathlib.Nat.{le_of_suc-le-suc, not-suc-le-zero}
use native.Mathlib.Omega.{arith}
use lib.Dec.{T, eqb, eqb→eq, ltb}
use lib.ListN.{length, get_or, get_or-eq_default}
use borrow.Author.Tests.{ltb-true, ltb-false}
use Rattle.effect.proofs.Finite.{both_left, both_right}
use Rattle.vir.specs.declared.interface.InterfaceKind.{InterfaceKind}
use Rattle.vir.specs.declared.header.Header.{Header}
use Rattle.vir.specs.declared.port.PortKind.{PortKind}
use Rattle.vir.specs.declared.step.Step.{Step}
use Rattle.vir.specs.Header.{header_number, header_of, headers}
use Rattle.vir.specs.Interface.{kind_number, kind_of, kinds}
use Rattle.vir.specs.Port.{port_number, port_of, ports}
use Rattle.vir.specs.Step.{step_tag, step_of, steps}

-- f counts the entries of a list from n on
abbrev counts : {A : Type 0} → (A → ℕ) → ℕ → List A → Bool
counts f n [] = true
counts f n (x ∷ xs) = eqb (f x) n && counts f (suc n) xs

counted : {A : Type 0} (f : A → ℕ) (n : ℕ) (l : List A) (d : A) → T (counts f n l) → (i : ℕ) → i < length l → f (get_or l i d) ≡ n + i
counted f n [] d t i h = absurd (not-suc-le-zero h)
counted f n (x ∷ xs) d t zero h =
    let first : f x ≡ n = eqb→eq (f x) n (both_left (eqb (f x) n) (counts f (suc n) xs) t) in omega arith
counted f n (x ∷ xs) d t (suc i) h =
    let later : f (get_or xs i d) ≡ suc n + i =
    counted f (suc n) xs d (both_right (eqb (f x) n) (counts f (suc n) xs) t) i (le_of_suc-le-suc h) in
    omega arith

-- what is found in a list that f counts stands at its number
numbered : {A : Type 0} (f : A → ℕ) (l : List A) (d x : A) → T (counts f 0 l) → (x ≡ d → ⊥) → (i : ℕ) → get_or l i d ≡ x → f x ≡ i
numbered f l d x t ne i e = go (ltb i (length l)) refl
  where
    go : (b : Bool) → ltb i (length l) ≡ b → f x ≡ i
    go true h =
        let placed : f (get_or l i d) ≡ 0 + i = counted f 0 l d t i (ltb-true i (length l) h) in
        let same : f (get_or l i d) ≡ f x = ap f e in
        omega arith
    go false h = absurd (ne (sym e ∙ get_or-eq_default l d (ltb-false i (length l) h)))

-- the number of what was found, if anything
abbrev found_kind : Option InterfaceKind → ℕ
found_kind (Some k) = kind_number k
found_kind None = 0

abbrev found_header : Option Header → ℕ
found_header (Some h) = header_number h
found_header None = 0

abbrev found_port : Option PortKind → ℕ
found_port (Some p) = port_number p
found_port None = 0

abbrev found_step : Option Step → ℕ
found_step (Some s) = step_tag s
found_step None = 0

pub kind_number_lem : (n : ℕ) (k : InterfaceKind) → kind_of n ≡ Some k → kind_number k ≡ n
unfolding kind_of
kind_number_lem n k = numbered found_kind kinds None (Some k) tt (λ e. let z : ◌≡◌ {A = ℕ} 0 1 = cc in omega arith) n

pub header_number_lem : (n : ℕ) (h : Header) → header_of n ≡ Some h → header_number h ≡ n
unfolding header_of
header_number_lem n h = numbered found_header headers None (Some h) tt (λ e. let z : ◌≡◌ {A = ℕ} 0 1 = cc in omega arith) n

pub port_number_lem : (n a b : ℕ) (p : PortKind) → port_of n a b ≡ Some p → port_number p ≡ n
unfolding port_of
port_number_lem n a b p = numbered found_port (ports a b) None (Some p) tt (λ e. let z : ◌≡◌ {A = ℕ} 0 1 = cc in omega arith) n

pub step-tag : (n a b : ℕ) (s : Step) → step_of n a b ≡ Some s → step_tag s ≡ n
unfolding step_of
step-tag n a b s = numbered found_step (steps a b) None (Some s) tt (λ e. let z : ◌≡◌ {A = ℕ} 0 1 = cc in omega arith) n
