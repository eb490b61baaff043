-- What check answers, in document 01's order of refusals.
use Rattle.std.specs.Prelude.{Bool, true, false, ◌&&◌, List, ℕ, eqb, ltb, length, Err, Ok, Result}
use Rattle.image.specs.declared.answer.Answer.{Answer}
use Rattle.records.specs.declared.layout.Counts.{Counts}
use Rattle.records.specs.declared.running.Running.{Running}
use Rattle.records.specs.Bytes.{u8_at, u16_at}
use Rattle.judging.specs.Judge.{walk_all}
use Rattle.image.specs.Answer.{refused}
use Rattle.image.specs.Kind.{kind_of_vir}
use Rattle.image.specs.LayerRules.{layer_rules}
use Rattle.records.specs.Layout.{version, counts_of, within, length_of, sections}
use Rattle.image.specs.View.{view_of}
use Rattle.image.specs.Vir.{Vir}
use Rattle.records.specs.declared.running.Fault.{Fault}

-- `VIR` and version 1
abbrev pub marked : List ℕ → Bool
marked s = eqb (u8_at s 0) 86 && eqb (u8_at s 1) 73 && eqb (u8_at s 2) 82 && eqb (u16_at s 3) version

-- no list entry is unowned
abbrev pub owned : Counts → Running → Bool
owned c r = eqb r.refs c.refs && eqb r.steps c.steps && eqb r.ports c.ports

-- 7 kind, 8 layers
abbrev pub kind_answer : Vir → Answer
kind_answer v =
    elim (eqb (kind_of_vir v) 0) [
      | true ↦ refused 7 0
      | false ↦
          elim (eqb (kind_of_vir v) 1) [
            | true ↦ record { code = 0; place = 0; kind = 1 }
            | false ↦ elim (layer_rules v) [ true ↦ record { code = 0; place = 0; kind = 2 } | false ↦ refused 8 0 ]
          ]
    ]

-- 6 record: the first record at fault, or the image length if only an unowned list entry remains
abbrev pub record_answer : List ℕ → Counts → Result Running Fault → Answer
record_answer s c (Err f) = refused 6 f.0
record_answer s c (Ok r) = elim (owned c r) [ true ↦ kind_answer (view_of s c) | false ↦ refused 6 (length s) ]

-- 2 short, 3 mark, 4 count, 5 length
unfoldable pub check_of : List ℕ → Answer
check_of s =
    elim (ltb (length s) 21) [
      | true ↦ refused 2 0
      | false ↦
          elim (marked s) [
            | false ↦ refused 3 0
            | true ↦
                elim (within (counts_of s)) [
                  | false ↦ refused 4 0
                  | true ↦
                      elim (eqb (length s) (length_of (counts_of s))) [
                        | false ↦ refused 5 0
                        | true ↦
                            record_answer s (counts_of s)
                            (walk_all s (counts_of s) sections (record { refs = 0; steps = 0; ports = 0 }))
                      ]
                ]
          ]
    ]
