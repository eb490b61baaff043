-- What analyse answers, as numbers, open to computing.
use mathlib.Core.List.{List}
use Prim.Native.Nat.{ℕ}
use Rattle.effect.specs.Effect.{effect_of, JOIN, UNION, join, union, read, pass, barrier, write}
use Rattle.vir.specs.Header.{header_of}
use Rattle.vir.specs.Interface.{kind_of}
use Rattle.vir.specs.Port.{port_of}
use Rattle.vir.specs.Step.{step_of}
use Rattle.records.specs.Bytes.{u16_at, u32_at}
use Rattle.records.specs.Every.{every}
use Rattle.rules.specs.Faults.{layer_good, interface_good, stage_good}
use Rattle.judging.specs.Judge.{walk, walk_all}
use Rattle.image.specs.Call.{numbers}
use Rattle.image.specs.Check.{check_of}
use Rattle.image.specs.Kind.{all, concat, occurrences, present, kind_of_vir}
use Rattle.image.specs.LayerRules.{lies_within, layer_rules}
use Rattle.image.specs.Loops.{each, up_to, down_from}
use Rattle.image.specs.View.{collect, view_of}
use Rattle.report.specs.Report.{row_bytes, report_bytes}
use Rattle.solve.specs.FixedPoint.{dependent_on, dependents, evaluate, evaluate_all, run, seeded, fixed_point}
use Rattle.analyzer.specs.Outcome.{analyse_of}
use Rattle.analyzer.specs.Analyze.{process_local, answers_for, declared, analyze}
use Rattle.analyzer.specs.Build.{strict_non_fork, inspects, build_stage, build_from, build}
use Rattle.analyzer.specs.Errors.{first_reader}
use Rattle.analyzer.specs.Fill.{contains, fill_segments}
use Rattle.analyzer.specs.Sweep.{sweep, incoming_of}
use Rattle.analyzer.specs.Wires.{set_wires, loops}

unfoldable pub analyse_numbers : ℕ → List ℕ → List ℕ
unfolding analyse_of analyze process_local answers_for declared build build_from build_stage inspects strict_non_fork first_reader contains fill_segments sweep incoming_of set_wires loops dependent_on dependents evaluate evaluate_all run seeded fixed_point row_bytes report_bytes effect_of JOIN UNION join union read pass barrier write each up_to down_from check_of walk walk_all u16_at u32_at every layer_good interface_good stage_good header_of kind_of port_of step_of collect view_of all concat occurrences present lies_within kind_of_vir layer_rules
analyse_numbers span s = numbers (analyse_of span s)
