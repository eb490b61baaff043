-- The bytes of reports, by computing: two interfaces, three locals and two diagnostics; a clean one; one with more diagnostics than are kept,
-- whose interface is come to more than 65,535 times.
use mathlib.Core.Path.{refl}
use mathlib.Core.Bool.{true, false}
use mathlib.Core.List.{List, [], ◌∷◌}
use Prim.Native.Nat.{ℕ, ◌+◌, ◌*◌}
use lib.ListN.{length, take, replicate}
use Rattle.effect.specs.Example.{Example, Hold}
use Rattle.image.specs.Kind.{concat}
use Rattle.report.specs.Report.{Diag, no_wire, Report, row_bytes, report_bytes}

example : Report
example = record {
  locals = 3;
  takes = 258;
  evaluations = 65536;
  incoming = 1 ∷ 300 ∷ [];
  wires =
      (record { present = true; first = true; second = false; third = false } ∷
      no_wire ∷
      record { present = true; first = false; second = true; third = true } ∷
      []) ∷
      (no_wire ∷ record { present = true; first = false; second = false; third = true } ∷ no_wire ∷ []) ∷
      [];
  diags = record { kind = 2; span = 65538; ty = 32768; local = 1 } ∷ record { kind = 5; span = 7; ty = 65535; local = 2 } ∷ [];
}

-- one interface and no local
one_interface : ℕ → List Diag → Report
one_interface n diags = record { locals = 0; takes = 0; evaluations = 0; incoming = n ∷ []; wires = [] ∷ []; diags = diags }

many : List ℕ
many = report_bytes (one_interface 65541 (replicate 1025 (record { kind = 4; span = 3; ty = 2; local = 1 })))

pub computed : List Example
computed =
    record {
      given = report_bytes example;
      said =
          86 ∷ 65 ∷ 82 ∷ 1 ∷ 0 ∷ 2 ∷ 0 ∷ 3 ∷ 0 ∷ 1 ∷ 2 ∷ 1 ∷ 0 ∷ 0 ∷ 0 ∷ 0 ∷ 1 ∷ 0 ∷ 2 ∷ 0 ∷ 0 ∷ 0 ∷ 2 ∷ 0 ∷
          1 ∷ 0 ∷ 0 ∷ 0 ∷ 44 ∷ 1 ∷ 0 ∷ 0 ∷
          3 ∷ 13 ∷ 144 ∷ 0 ∷
          2 ∷ 2 ∷ 0 ∷ 1 ∷ 0 ∷ 0 ∷ 128 ∷ 1 ∷ 0 ∷
          5 ∷ 7 ∷ 0 ∷ 0 ∷ 0 ∷ 255 ∷ 255 ∷ 2 ∷ 0 ∷ [];
    } ∷
    record {
      given = report_bytes (one_interface 1 []);
      said =
          86 ∷ 65 ∷ 82 ∷ 1 ∷ 0 ∷ 1 ∷ 0 ∷ 0 ∷ 0 ∷ 0 ∷ 0 ∷ 0 ∷ 0 ∷ 0 ∷ 0 ∷ 0 ∷ 0 ∷ 0 ∷ 0 ∷ 0 ∷ 0 ∷ 0 ∷ 0 ∷ 0 ∷
          1 ∷ 0 ∷ 0 ∷ 0 ∷ [];
    } ∷
    record {
      given = take 37 many;
      said =
          86 ∷ 65 ∷ 82 ∷ 1 ∷ 0 ∷ 1 ∷ 0 ∷ 0 ∷ 0 ∷ 1 ∷ 0 ∷ 0 ∷ 0 ∷ 0 ∷ 0 ∷ 0 ∷ 0 ∷ 0 ∷ 1 ∷ 4 ∷ 0 ∷ 0 ∷ 0 ∷ 4 ∷
          5 ∷ 0 ∷ 1 ∷ 0 ∷
          4 ∷ 3 ∷ 0 ∷ 0 ∷ 0 ∷ 2 ∷ 0 ∷ 1 ∷ 0 ∷ [];
    } ∷
    record { given = length many ∷ []; said = (28 + 9 * 1024) ∷ [] } ∷
    []

pub hold : Hold computed
unfolding computed example one_interface many report_bytes row_bytes concat
hold = (refl, (refl, (refl, (refl, tt))))
