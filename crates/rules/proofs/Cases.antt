-- What the case of a number asks of the fields beside it.
use Rattle.std.specs.Prelude.{None, Option, Some}
use mathlib.Core.Path.{◌≡◌, ◌∙◌, refl, sym, ap, subst}
use mathlib.Core.Bool.{Bool, true, false, ◌&&◌, ◌||◌}
use mathlib.Core.List.{List, [], ◌∷◌}
use Prim.{Unit, tt}
use Prim.Native.Nat.{ℕ, zero, suc, ◌+◌, ◌≤◌}
use native.Mathlib.Nat.{add-zero, zero-add}
use native.Mathlib.Omega.{arith}
use Rattle.std.proofs.Math.Bool.{and_assoc}
use lib.Dec.{eqb, leb}
use borrow.Author.Tests.{lt-leb}
use lib.ListN.{length, get_or}
use Rattle.vir.specs.declared.port.PortKind.{PortKind}
use Rattle.vir.specs.declared.port.PortKind.TheVariants.{Wire}
use Rattle.vir.specs.Port.{port_of, ports}
use Rattle.vir.specs.declared.interface.InterfaceKind.{InterfaceKind}
use Rattle.vir.specs.declared.interface.InterfaceKind.TheVariants.{Closure, Inspect}
use Rattle.vir.specs.Interface.{kind_of, kinds}
use Rattle.records.specs.declared.layout.Counts.{Counts}
use Rattle.records.specs.declared.record.PortRecord.{PortRecord}
use Rattle.records.specs.declared.record.InterfaceRecord.{InterfaceRecord}
use Rattle.rules.specs.Faults.{list_at, refs_below, closure_at, entries_named, type_named, port_good}
use Rattle.rules.proofs.Fits.{entries-stages}

-- P of each entry of a list with its number, from n on
abbrev pub Each : {A : Type 0} → (ℕ → A → Type 0) → ℕ → List A → Type 0
Each P n [] = Unit {0}
Each P n (x ∷ xs) = P n x × Each P (suc n) xs

infixr 40 ◌▸◌
abbrev pub ◌▸◌ : {A B : Type 0} → A → B → A × B
a ▸ b = (a, b)

-- with P of what stands past them too, it is P of what is read at any number
pub each_at : {A : Type 0} (P : ℕ → A → Type 0) (n : ℕ) (l : List A) (d : A) → Each P n l → ((i : ℕ) → n + length l ≤ i → P i d)
    → (i : ℕ) → P (n + i) (get_or l i d)
each_at P n [] d t past i = past (n + i) (omega arith)
each_at P n (x ∷ xs) d t past zero = subst (λ (k : ℕ). P k x) (sym (add-zero n)) t.0
each_at P n (x ∷ xs) d t past (suc i) =
    subst (λ (k : ℕ). P k (get_or xs i d)) (omega arith) (each_at P (suc n) xs d t.1 (λ i h. past i (omega arith)) i)

-- a port's
abbrev pub port_asks : ℕ → Option PortKind → Bool
port_asks b (Some (Wire span wire)) = true
port_asks b (Some kind) = eqb b 0
port_asks b None = false

abbrev port_asked : ℕ → ℕ → Option PortKind → Type 0
port_asked b n x = (leb n 7 && (eqb n 6 || eqb b 0)) ≡ port_asks b x

pub port_case : (c : Counts) (p : PortRecord) → port_good c p ≡ (type_named c p.ty.0 && port_asks p.b (port_of p.kind p.a p.b))
unfolding port_of
port_case c p =
    and_assoc (type_named c p.ty.0) (leb p.kind 7) (eqb p.kind 6 || eqb p.b 0)
    ∙ ap (λ (x : Bool). type_named c p.ty.0 && x)
    (subst (λ (n : ℕ). port_asked p.b n (port_of p.kind p.a p.b)) (zero-add p.kind)
    (each_at (port_asked p.b) 0 (ports p.a p.b) None
    (refl ▸ refl ▸ refl ▸ refl ▸ refl ▸ refl ▸ refl ▸ refl ▸ tt)
    (λ n past. ap (λ (x : Bool). x && (eqb n 6 || eqb p.b 0)) (lt-leb n 7 (omega arith)))
    p.kind))

-- an interface's entries
abbrev pub entries_ask : List ℕ → Counts → InterfaceRecord → Option InterfaceKind → Bool
entries_ask s c i (Some Inspect) = refs_below s c i.list c.locals
entries_ask s c i (Some Closure) = closure_at s (list_at c i.list) c.stages
entries_ask s c i _ = refs_below s c i.list c.stages

abbrev entries_asked : List ℕ → Counts → InterfaceRecord → ℕ → Option InterfaceKind → Type 0
entries_asked s c i n x = entries_named s c (record { layer = i.layer; kind = n; key = i.key; list = i.list }) ≡ entries_ask s c i x

pub entries_case : (s : List ℕ) (c : Counts) (i : InterfaceRecord) → entries_named s c i ≡ entries_ask s c i (kind_of i.kind)
unfolding kind_of
entries_case s c i =
    subst (λ (n : ℕ). entries_asked s c i n (kind_of i.kind)) (zero-add i.kind)
    (each_at (entries_asked s c i) 0 kinds None
    (refl ▸ refl ▸ refl ▸ refl ▸ refl ▸ tt)
    (λ n past. sym (entries-stages s c (record { layer = i.layer; kind = n; key = i.key; list = i.list }) (list_at c i.list) refl (λ h. omega (arith, h)) (λ h. omega (arith, h))))
    i.kind)
