-- Document 01, "The report": its parts, and their bytes, field by field.
use Rattle.std.specs.Prelude.{Bool, false, cond, List, [], ◌∷◌, ◌++◌, ℕ, ◌+◌, ◌*◌, min, length, take}
use Rattle.image.specs.Encode.{u16_bytes, u32_bytes}
use Rattle.image.specs.Kind.{concat}

-- an interface's wire for a local: whether there is one, and its triple, all false where there is none
pub record Wire : Type 0 where
  pub present : Bool
  pub first : Bool
  pub second : Bool
  pub third : Bool

abbrev pub no_wire : Wire
no_wire = record { present = false; first = false; second = false; third = false }

-- kind: 1 InfiniteLoop, 2 CannotDrop, 3 UninitializedVariable, 4 CannotFork, 5 ValueLaterUsedHere
pub record Diag : Type 0 where
  pub kind : ℕ
  pub span : ℕ
  pub ty : ℕ
  pub local : ℕ

-- a row of `wires` for each interface, a wire in it for each local; `incoming` by interface; every diagnostic
pub record Report : Type 0 where
  pub locals : ℕ
  pub takes : ℕ
  pub evaluations : ℕ
  pub incoming : List ℕ
  pub wires : List (List Wire)
  pub diags : List Diag

-- how many diagnostics are kept, at most
abbrev pub most : ℕ
most = 1024

-- 0 clean: no diagnostic; 1 otherwise
abbrev pub verdict : List Diag → ℕ
verdict [] = 0
verdict (d ∷ ds) = 1

abbrev pub bit : Bool → ℕ
bit b = cond b 1 0

-- bit 0 wire present, 1 to 3 the triple in order
abbrev pub half : Wire → ℕ
half w = bit w.present + 2 * bit w.first + 4 * bit w.second + 8 * bit w.third

-- half bytes, even local low; a row of an odd number of locals ends in a zero half
unfoldable pub row_bytes : List Wire → List ℕ
row_bytes [] = []
row_bytes (w ∷ []) = half w ∷ []
row_bytes (w ∷ x ∷ ws) = (half w + 16 * half x) ∷ row_bytes ws

-- kind u8, span u32, type u16, local u16
abbrev pub diag_bytes : Diag → List ℕ
diag_bytes d = (d.kind ∷ []) ++ u32_bytes d.span ++ u16_bytes d.ty ++ u16_bytes d.local

-- `VAR`, u16 version 1, u16 interfaces, u16 locals, u8 verdict, u32 takes, u32 evaluations, u32 diagnostics in all, u16 kept
abbrev pub head_bytes : Report → List ℕ
head_bytes r =
    (86 ∷ 65 ∷ 82 ∷ [])
    ++ u16_bytes 1
    ++ u16_bytes (length r.incoming)
    ++ u16_bytes r.locals
    ++ (verdict r.diags ∷ [])
    ++ u32_bytes r.takes
    ++ u32_bytes r.evaluations
    ++ u32_bytes (length r.diags)
    ++ u16_bytes (min (length r.diags) most)

-- then u32 incoming per interface, the rows, and the first 1,024 diagnostics
unfoldable pub report_bytes : Report → List ℕ
report_bytes r = head_bytes r ++ concat u32_bytes r.incoming ++ concat row_bytes r.wires ++ concat diag_bytes (take most r.diags)
