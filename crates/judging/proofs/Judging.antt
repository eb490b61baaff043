-- A good record's lists end within their sections, so the running places stay small; and what judging answers by its test.
use Rattle.std.specs.Prelude.{None, Some}
use mathlib.Core.Path.{◌≡◌, ◌∙◌, sym, ap}
use mathlib.Core.Bool.{Bool, true, false, not, cond, ◌&&◌, ◌||◌}
use mathlib.Core.List.{List}
use Prim.Native.Nat.{ℕ, ◌+◌, ◌≤◌}
use native.Mathlib.Omega.{arith}
use lib.Dec.{eqb}
use borrow.Author.Tests.{not-true, not-false, eqb-true}
use Rattle.vir.specs.Interface.{kind_of}
use Rattle.vir.specs.Step.{step_of}
use Rattle.records.specs.declared.layout.Counts.{Counts}
use Rattle.records.specs.declared.record.LayerRecord.{LayerRecord}
use Rattle.records.specs.declared.record.InterfaceRecord.{InterfaceRecord}
use Rattle.records.specs.declared.record.StageRecord.{StageRecord}
use Rattle.records.specs.declared.record.StepRecord.{StepRecord}
use Rattle.records.specs.declared.running.Running.{Running}
use Rattle.rules.specs.Faults.{or_none, laid, ports_laid, refs_below, layer_fields, layer_good, kind_lists, entries_named, interface_fields, interface_good, stage_named, stage_lists, stage_fields, stage_good, step_has, step_named, step_good}
use Rattle.rules.proofs.Fits.{laid_next, stage_ports_fit}
use Rattle.records.proofs.Guards.{left_true, right_true}

pub judged_no : (g : Bool) (n : Running) (b : Bool) → b ≡ g → not b ≡ true → None ≡ cond g (Some n) None
judged_no g n b e h = sym (ap (λ (x : Bool). cond x (Some n) None) (sym e ∙ not-true b h))

pub judged_next : (g : Bool) (n : Running) (b : Bool) → b ≡ g → not b ≡ false → Some n ≡ cond g (Some n) None
judged_next g n b e h = sym (ap (λ (x : Bool). cond x (Some n) None) (sym e ∙ not-false b h))

module _ (s : List ℕ) (c : Counts) (r : Running) where
  pub layer-next : (l : LayerRecord) → layer_good s c r l ≡ true → r.refs + l.stages.count ≤ c.refs
  unfolding layer_good
  layer-next l h =
      laid_next r.refs c.refs l.stages
      (right_true (or_none c.layers l.parent.0) _ (left_true (layer_fields c r l) (refs_below s c l.stages c.stages) h))

  pub interface-next : (i : InterfaceRecord) → interface_good s c r i ≡ true → r.refs + i.list.count ≤ c.refs
  unfolding interface_good
  interface-next i h =
      laid_next r.refs c.refs i.list
      (right_true (kind_lists (kind_of i.kind) i.list.count && (eqb i.kind 2 || eqb i.key 0)) _
      (left_true (interface_fields c r i) (entries_named s c i) h))

  pub step-next : (t : StepRecord) → step_good c r t ≡ true → r.ports + t.ports.count ≤ c.ports
  step-next t h =
      laid_next r.ports c.ports t.ports
      (right_true (step_has (step_of t.tag t.a t.b) t.ports.count && step_named c t) _ h)

  -- the three places behind a stage
  pub record Placed (t : StageRecord) : Type 0 where
    pub refs : r.refs + t.declarations.count ≤ c.refs
    pub steps : r.steps + t.steps.count ≤ c.steps
    pub ports : r.ports + t.ports.count + t.payload ≤ c.ports

  pub stage-next : (t : StageRecord) → stage_good s c r t ≡ true → Placed t
  unfolding stage_good
  stage-next t h =
      let fields : stage_fields c r t ≡ true = left_true (stage_fields c r t) (refs_below s c t.declarations c.locals) h in
      let lists : stage_lists c r t ≡ true = right_true (stage_named c t) (stage_lists c r t) fields in
      let ps : Bool = ports_laid r.ports c.ports t.ports t.payload in
      let two : (ports_laid r.ports c.ports t.ports t.payload && laid r.steps c.steps t.steps) ≡ true =
      left_true _ (laid r.refs c.refs t.declarations) lists in
      let first : t.ports.first ≡ r.ports =
      eqb-true t.ports.first r.ports
      (left_true (eqb t.ports.first r.ports) _ (left_true (ports_laid r.ports c.ports t.ports t.payload) _ two)) in
      record {
        refs =
            laid_next r.refs c.refs t.declarations
            (right_true (ports_laid r.ports c.ports t.ports t.payload && laid r.steps c.steps t.steps) _ lists);
        steps = laid_next r.steps c.steps t.steps (right_true (ports_laid r.ports c.ports t.ports t.payload) _ two);
        ports = omega (arith, first, stage_ports_fit c r t fields);
      }
