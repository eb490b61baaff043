-- What the fields' tests show of a list of refs, and the cases of an interface's entries.
use mathlib.Core.Path.{◌≡◌, subst}
use mathlib.Core.Bool.{Bool, true, ◌&&◌, ◌||◌}
use mathlib.Core.List.{List}
use Prim.Native.Nat.{ℕ, ◌+◌, ◌*◌, ◌≤◌, ◌<◌}
use native.Mathlib.Omega.{arith}
use lib.Dec.{eqb, ltb, leb}
use borrow.Author.Tests.{leb-true, eqb-true, eq-eqb, ne_eqb, le-leb, lt-leb}
use Rattle.vir.specs.Interface.{kind_of}
use Rattle.records.specs.declared.layout.Counts.{Counts}
use Rattle.records.specs.declared.record.Run.{Run}
use Rattle.records.specs.declared.record.LayerRecord.{LayerRecord}
use Rattle.records.specs.declared.record.InterfaceRecord.{InterfaceRecord}
use Rattle.records.specs.declared.record.StageRecord.{StageRecord}
use Rattle.records.specs.declared.record.StepRecord.{StepRecord}
use Rattle.records.specs.declared.running.Running.{Running}
use Rattle.records.specs.Bytes.{u16_at}
use Rattle.records.specs.Every.{every}
use Rattle.rules.specs.Faults.{or_none, laid, list_at, layer_fields, kind_lists, closure_at, entries_named, interface_fields, stage_named, stage_lists, stage_fields, ports_laid, step_named}
use Rattle.records.proofs.Guards.{left_true, right_true}

pub laid-first : (running total : ℕ) (run : Run) → laid running total run ≡ true → run.first ≡ running
laid-first running total run h = eqb-true run.first running (left_true _ (leb (run.first + run.count) total) h)

pub laid-fits : (running total : ℕ) (run : Run) → laid running total run ≡ true → run.first + run.count ≤ total
laid-fits running total run h = leb-true (run.first + run.count) total (right_true (eqb run.first running) _ h)

-- where the list starts, the running place ends
pub laid_next : (running total : ℕ) (run : Run) → laid running total run ≡ true → running + run.count ≤ total
laid_next running total run h = omega (arith, laid-first running total run h, laid-fits running total run h)

pub layer_fits_lem : (c : Counts) (r : Running) (l : LayerRecord) → layer_fields c r l ≡ true → l.stages.first + l.stages.count ≤ c.refs
layer_fits_lem c r l h = laid-fits r.refs c.refs l.stages (right_true (or_none c.layers l.parent.0) _ h)

pub interface-fits : (c : Counts) (r : Running) (i : InterfaceRecord) → interface_fields c r i ≡ true → i.list.first + i.list.count ≤ c.refs
interface-fits c r i h =
    laid-fits r.refs c.refs i.list
    (right_true (kind_lists (kind_of i.kind) i.list.count && (eqb i.kind 2 || eqb i.key 0)) _ h)

-- a Closure lists three
pub three_listed : (k n : ℕ) → kind_lists (kind_of k) n ≡ true → k ≡ 3 → n ≡ 3
unfolding kind_of
three_listed k n h e = eqb-true n 3 (subst (λ (x : ℕ). kind_lists (kind_of x) n ≡ true) e h)

pub closure_three : (c : Counts) (r : Running) (i : InterfaceRecord) → interface_fields c r i ≡ true → i.kind ≡ 3 → i.list.count ≡ 3
closure_three c r i h =
    three_listed i.kind i.list.count
    (left_true _ (eqb i.kind 2 || eqb i.key 0) (left_true _ (laid r.refs c.refs i.list) h))

module _ (c : Counts) (r : Running) (t : StageRecord) (h : stage_fields c r t ≡ true) where
  lists : stage_lists c r t ≡ true
  lists = right_true (stage_named c t) (stage_lists c r t) h

  first_two : (ports_laid r.ports c.ports t.ports t.payload && laid r.steps c.steps t.steps) ≡ true
  first_two = left_true _ (laid r.refs c.refs t.declarations) lists

  pub stage-fits : t.declarations.first + t.declarations.count ≤ c.refs
  stage-fits =
      laid-fits r.refs c.refs t.declarations
      (right_true (ports_laid r.ports c.ports t.ports t.payload && laid r.steps c.steps t.steps) _ lists)

  pub stage_steps_fit : t.steps.first + t.steps.count ≤ c.steps
  stage_steps_fit = laid-fits r.steps c.steps t.steps (right_true (ports_laid r.ports c.ports t.ports t.payload) _ first_two)

  pub stage_ports_fit : t.ports.first + t.ports.count + t.payload ≤ c.ports
  stage_ports_fit =
      leb-true (t.ports.first + t.ports.count + t.payload) c.ports
      (right_true (eqb t.ports.first r.ports) _ (left_true (ports_laid r.ports c.ports t.ports t.payload) _ first_two))

module _ (s : List ℕ) (c : Counts) (i : InterfaceRecord) (p : ℕ) (e : p ≡ list_at c i.list) where
  pub entries_inspect : i.kind ≡ 4 → every i.list.count (λ k. ltb (u16_at s (p + 2 * k)) c.locals) ≡ entries_named s c i
  entries_inspect h = rw e (simp (eq-eqb _ _ h))

  pub entries_closure : (i.kind ≡ 4 → ⊥) → i.kind ≡ 3 → closure_at s p c.stages ≡ entries_named s c i
  entries_closure n h = rw e (simp (ne_eqb _ _ n, eq-eqb _ _ h))

  pub entries-stages : (i.kind ≡ 4 → ⊥) → (i.kind ≡ 3 → ⊥) → every i.list.count (λ k. ltb (u16_at s (p + 2 * k)) c.stages) ≡ entries_named s c i
  entries-stages n h = rw e (simp (ne_eqb _ _ n, ne_eqb _ _ h))

module _ (c : Counts) (t : StepRecord) where
  pub named-invoke : t.tag ≤ 5 → ltb t.b c.locals ≡ step_named c t
  named-invoke h = simp (le-leb _ _ h)

  pub named-transfer : 5 < t.tag → t.tag ≡ 6 → (eqb t.a 0 && ltb t.b c.interfaces) ≡ step_named c t
  named-transfer h k = simp (lt-leb _ _ h, eq-eqb _ _ k)

  pub named_diverge : {named : Bool} → 5 < t.tag → (t.tag ≡ 6 → ⊥) → t.tag ≡ 7 → named ≡ or_none c.interfaces t.b
      → (ltb t.a c.layers && named) ≡ step_named c t
  named_diverge h k l e = rw e (simp (lt-leb _ _ h, ne_eqb _ _ k, eq-eqb _ _ l))

  pub named_other : 5 < t.tag → (t.tag ≡ 6 → ⊥) → (t.tag ≡ 7 → ⊥) → eqb t.b 0 ≡ step_named c t
  named_other h k l = simp (lt-leb _ _ h, ne_eqb _ _ k, ne_eqb _ _ l)
