-- normalizer.rs: `update_open_wires`.
use Rattle.std.specs.Prelude.{true, false, List, [], ◌∷◌, ℕ, eqb, ltb}
use Rattle.vir.specs.declared.port.PortKind.{PortKind}
use Rattle.vir.specs.declared.port.PortKind.TheVariants.{Nil, Bool, N32, F32, F64, Nat, Wire, Error}
use Rattle.vir.specs.Ids.{inverse}
use Rattle.image.specs.Vir.{Port}

-- an entry of the Rust's `BTreeMap<WireId, (Span, Type)>`; the map is a list of them, lowest wire first
pub record Open : Type 0 where
  pub wire : ℕ
  pub span : ℕ
  pub ty : ℕ

-- `Entry::Vacant`: it is inserted at its place; `Entry::Occupied`: it is removed
unfoldable pub toggle : Open → List Open → List Open
toggle o [] = o ∷ []
toggle o (x ∷ xs) =
    elim (ltb o.wire x.wire) [
      | true ↦ o ∷ x ∷ xs
      | false ↦ elim (eqb o.wire x.wire) [ true ↦ xs | false ↦ x ∷ toggle o xs ]
    ]

-- `if let Port { ty, kind: PortKind::Wire(span, wire) } = port`, with the inverse of the port's type
abbrev pub update_kind : ℕ → PortKind → List Open → List Open
update_kind ty (Nil a) wires = wires
update_kind ty (Bool a) wires = wires
update_kind ty (N32 a) wires = wires
update_kind ty (F32 a) wires = wires
update_kind ty (F64 a) wires = wires
update_kind ty (Nat a) wires = wires
update_kind ty (Wire span wire) wires = toggle (record { wire = wire.0; span = span.0; ty = inverse ty }) wires
update_kind ty (Error a) wires = wires

abbrev pub update_open_wires : Port → List Open → List Open
update_open_wires p wires = update_kind p.ty p.kind wires
