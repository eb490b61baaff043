-- Where no record is at fault, the records have their facts: a clean walk passes each record, and what passes is good.
use Rattle.std.specs.Prelude.{Err, None, Ok, Option, Result, Some}
use mathlib.Core.Path.{◌≡◌, ◌∙◌, refl, sym, ap, subst}
use mathlib.Core.Bool.{Bool, true, false, cond, not, ◌&&◌, ◌||◌, true≢false}
use mathlib.Core.List.{List, [], ◌∷◌}
use Prim.Native.Nat.{ℕ, zero, suc, ◌+◌, ◌*◌, ◌<◌}
use native.Mathlib.Nat.{not-suc-le-zero}
use native.Mathlib.Omega.{arith}
use lib.Dec.{eqb, ltb, leb}
use lib.ListN.{length, get_or, get_or-eq_default}
use borrow.Author.Tests.{ltb-true, leb-true, leb-false, eqb-true, eqb-false, ne_eqb}
use Rattle.vir.specs.Header.{headers, header_of}
use Rattle.vir.specs.Ids.{none, idx}
use Rattle.vir.specs.Interface.{kinds, kind_of}
use Rattle.vir.specs.Step.{steps, step_of}
use Rattle.records.specs.declared.layout.Counts.{Counts}
use Rattle.records.specs.declared.layout.Section.{Section}
use Rattle.records.specs.declared.layout.Section.TheVariants.{Ports}
use Rattle.records.specs.declared.record.Run.{Run}
use Rattle.records.specs.declared.record.LayerRecord.{LayerRecord}
use Rattle.records.specs.declared.record.InterfaceRecord.{InterfaceRecord}
use Rattle.records.specs.declared.record.StageRecord.{StageRecord}
use Rattle.records.specs.declared.record.LocalRecord.{LocalRecord}
use Rattle.records.specs.declared.record.TypeRecord.{TypeRecord}
use Rattle.records.specs.declared.record.StepRecord.{StepRecord}
use Rattle.records.specs.declared.record.PortRecord.{PortRecord}
use Rattle.records.specs.declared.running.Running.{Running}
use Rattle.image.specs.Accepted.{entry_at, Named, NamedOrNone, LayerFacts, InterfaceFacts, StageFacts, LocalFacts, TypeFacts, StepFacts, PortFacts, Accepted}
use Rattle.records.specs.Bytes.{u16_at}
use Rattle.rules.specs.Faults.{or_none, type_named, flags_good, laid, list_at, refs_below, layer_fields, layer_good, kind_lists, closure_at, entries_named, interface_fields, interface_good, header_has, transfer_good, stage_named, stage_lists, stage_fields, stage_good, local_good, type_good, step_has, step_named, step_good, port_good}
use Rattle.judging.specs.Judge.{judge, after, walk, walk_section, onwards, walk_all}
use Rattle.records.specs.Layout.{sections, size_of, count_of, start_of, Sized}
use Rattle.records.proofs.Every.{every-at}
use Rattle.rules.proofs.Fits.{laid-fits, layer_fits_lem, interface-fits, closure_three, stage-fits, stage_steps_fit, stage_ports_fit, entries_inspect, entries_closure, entries-stages, named-invoke, named-transfer, named_diverge}
use Rattle.records.proofs.Guards.{left_true, right_true}
use Rattle.records.specs.declared.running.Fault.{Fault}

-- what the tests show of an index ..
named_or_none : (n i : ℕ) → or_none n i ≡ true → NamedOrNone i n
named_or_none n i h some = ltb-true i n (sym (ap (λ (b : Bool). b || ltb i n) (ne_eqb i none some)) ∙ h)

-- .. and of a list's entries
pub refs-named : (s : List ℕ) (c : Counts) (run : Run) (n : ℕ) → refs_below s c run n ≡ true → Named s c run n
refs-named s c run n h k l = ltb-true (entry_at s c run k) n (every-at (λ k. ltb (entry_at s c run k) n) run.count k h l)

-- a Closure's three entries
closure_named_lem : (s : List ℕ) (p n : ℕ) → closure_at s p n ≡ true → (k : ℕ) → k < 3 → NamedOrNone (u16_at s (p + 2 * k)) n
closure_named_lem s p n h k l some = go k refl l
  where
    two : (ltb (u16_at s p) n && or_none n (u16_at s (p + 2))) ≡ true
    two = left_true _ (or_none n (u16_at s (p + 4))) h

    -- an entry that the test lets be none
    other : (q : ℕ) → or_none n (u16_at s q) ≡ true → q ≡ p + 2 * k → u16_at s (p + 2 * k) < n
    other q t e = named_or_none n (u16_at s (p + 2 * k)) (subst (λ (x : ℕ). or_none n (u16_at s x) ≡ true) e t) some

    go : (j : ℕ) → k ≡ j → j < 3 → u16_at s (p + 2 * k) < n
    go zero e m =
        let place : p + 2 * k ≡ p = omega arith in
        rw place (ltb-true (u16_at s p) n (left_true _ (or_none n (u16_at s (p + 2))) two))
    go (suc zero) e m = other (p + 2) (right_true (ltb (u16_at s p) n) _ two) (omega arith)
    go (suc (suc zero)) e m = other (p + 4) (right_true (ltb (u16_at s p) n && or_none n (u16_at s (p + 2))) _ h) (omega arith)
    go (suc (suc (suc j))) e m = absurd (omega arith)

-- a tag past the last of a table finds what the test refuses
known : {A : Type 0} (test : A → Bool) (table : List A) (other : A) (n : ℕ) → test other ≡ false → test (get_or table n other) ≡ true → n < length table
known test table other n refused h = go (leb (length table) n) refl
  where
    go : (b : Bool) → leb (length table) n ≡ b → n < length table
    go true e =
        let z : true ≡ false = sym h ∙ ap test (get_or-eq_default table other {n = n} (leb-true _ n e)) ∙ refused in
        absurd (true≢false z)
    go false e = leb-false (length table) n e

pub kind_known : (n m : ℕ) → kind_lists (kind_of n) m ≡ true → n < 5
unfolding kind_of
kind_known n m = known (λ f. kind_lists f m) kinds None n refl

header_known : (n m : ℕ) → header_has (header_of n) m ≡ true → n < 8
unfolding header_of
header_known n m = known (λ f. header_has f m) headers None n refl

step_known : (n a b m : ℕ) → step_has (step_of n a b) m ≡ true → n < 21
unfolding step_of
step_known n a b m = known (λ f. step_has f m) (steps a b) None n refl

-- a good record has its facts: a layer, and so on in the order of the file
layer-facts : (s : List ℕ) (c : Counts) (r : Running) (l : LayerRecord) → layer_good s c r l ≡ true → LayerFacts s c l
unfolding layer_good
layer-facts s c r l h =
    let fields : layer_fields c r l ≡ true = left_true (layer_fields c r l) (refs_below s c l.stages c.stages) h in
    record {
      parent = named_or_none c.layers l.parent.0 (left_true (or_none c.layers l.parent.0) (laid r.refs c.refs l.stages) fields);
      fits = layer_fits_lem c r l fields;
      named = refs-named s c l.stages c.stages (right_true (layer_fields c r l) (refs_below s c l.stages c.stages) h);
    }

module _ (s : List ℕ) (c : Counts) (r : Running) (i : InterfaceRecord) (h : interface_good s c r i ≡ true) where
  interface_fields_lem : interface_fields c r i ≡ true
  unfolding interface_good
  interface_fields_lem = left_true (interface_fields c r i) (entries_named s c i) h

  interface-entries : entries_named s c i ≡ true
  unfolding interface_good
  interface-entries = right_true (interface_fields c r i) (entries_named s c i) h

  interface-stages : (i.kind ≡ 4 → ⊥) → (k : ℕ) → k < i.list.count → NamedOrNone (entry_at s c i.list k) c.stages
  interface-stages n k l some = go (eqb i.kind 3) refl
    where
      go : (b : Bool) → eqb i.kind 3 ≡ b → entry_at s c i.list k < c.stages
      go true e =
          let closure : i.kind ≡ 3 = eqb-true i.kind 3 e in
          closure_named_lem s (list_at c i.list) c.stages (entries_closure s c i (list_at c i.list) refl n closure ∙ interface-entries) k
          (omega (arith, closure_three c r i interface_fields_lem closure)) some
      go false e =
          refs-named s c i.list c.stages
          (entries-stages s c i (list_at c i.list) refl n (eqb-false i.kind 3 e) ∙ interface-entries) k l

  interface-facts : InterfaceFacts s c i
  interface-facts =
      record {
        kind =
            kind_known i.kind i.list.count
            (left_true (kind_lists (kind_of i.kind) i.list.count) (eqb i.kind 2 || eqb i.key 0)
            (left_true _ (laid r.refs c.refs i.list) interface_fields_lem));
        fits = interface-fits c r i interface_fields_lem;
        stages = interface-stages;
        locals = λ inspect. refs-named s c i.list c.locals (entries_inspect s c i (list_at c i.list) refl inspect ∙ interface-entries);
      }

stage-facts : (s : List ℕ) (c : Counts) (r : Running) (t : StageRecord) → stage_good s c r t ≡ true → StageFacts s c t
unfolding stage_good
stage-facts s c r t h =
    let fields : stage_fields c r t ≡ true = left_true (stage_fields c r t) (refs_below s c t.declarations c.locals) h in
    let names : stage_named c t ≡ true = left_true (stage_named c t) (stage_lists c r t) fields in
    let firsts : Bool = ltb t.interface.0 c.interfaces && or_none c.layers t.layer.0 && header_has (header_of t.header) t.ports.count in
    let three : firsts ≡ true = left_true firsts (transfer_good c t) names in
    let two : (ltb t.interface.0 c.interfaces && or_none c.layers t.layer.0) ≡ true =
    left_true _ (header_has (header_of t.header) t.ports.count) three in
    let sent : (or_none c.interfaces t.transfer.0 && leb t.payload 1) ≡ true =
    left_true _ (eqb t.payload 0 || not (eqb t.transfer.0 none)) (right_true firsts (transfer_good c t) names) in
    record {
      interface = ltb-true t.interface.0 c.interfaces (left_true _ (or_none c.layers t.layer.0) two);
      layer = named_or_none c.layers t.layer.0 (right_true (ltb t.interface.0 c.interfaces) _ two);
      header =
          header_known t.header t.ports.count
          (right_true (ltb t.interface.0 c.interfaces && or_none c.layers t.layer.0) _ three);
      declarations_fit = stage-fits c r t fields;
      declared = refs-named s c t.declarations c.locals (right_true (stage_fields c r t) (refs_below s c t.declarations c.locals) h);
      steps_fit = stage_steps_fit c r t fields;
      ports_fit = stage_ports_fit c r t fields;
      transfer = named_or_none c.interfaces t.transfer.0 (left_true _ (leb t.payload 1) sent);
      payload = leb-true t.payload 1 (right_true (or_none c.interfaces t.transfer.0) _ sent);
    }

local-facts : (c : Counts) (l : LocalRecord) → local_good c l ≡ true → LocalFacts c l
local-facts c l h =
    record {
      type = ltb-true (idx l.ty.0) c.types (left_true (type_named c l.ty.0) (flags_good l.flags) h);
      flags = ltb-true l.flags 16 (right_true (type_named c l.ty.0) (flags_good l.flags) h);
    }

type-facts : (t : TypeRecord) → type_good t ≡ true → TypeFacts t
type-facts t h =
    record {
      upright = ltb-true t.upright 16 (left_true (flags_good t.upright) (flags_good t.inverted) h);
      inverted = ltb-true t.inverted 16 (right_true (flags_good t.upright) (flags_good t.inverted) h);
    }

module _ (c : Counts) (r : Running) (t : StepRecord) (h : step_good c r t ≡ true) where
  step_two : (step_has (step_of t.tag t.a t.b) t.ports.count && step_named c t) ≡ true
  step_two = left_true _ (laid r.ports c.ports t.ports) h

  step_names : step_named c t ≡ true
  step_names = right_true (step_has (step_of t.tag t.a t.b) t.ports.count) _ step_two

  diverges : t.tag ≡ 7 → (ltb t.a c.layers && or_none c.interfaces t.b) ≡ true
  diverges e = named_diverge c t (omega arith) (λ d. omega arith) e refl ∙ step_names

  step-facts : StepFacts c t
  step-facts =
      record {
        tag =
            step_known t.tag t.a t.b t.ports.count
            (left_true (step_has (step_of t.tag t.a t.b) t.ports.count) (step_named c t) step_two);
        local = λ e. ltb-true t.b c.locals (named-invoke c t e ∙ step_names);
        interface = λ e. ltb-true t.b c.interfaces (right_true (eqb t.a 0) _ (named-transfer c t (omega arith) e ∙ step_names));
        layer = λ e. ltb-true t.a c.layers (left_true _ (or_none c.interfaces t.b) (diverges e));
        onward = λ e. named_or_none c.interfaces t.b (right_true (ltb t.a c.layers) _ (diverges e));
        ports_fit =
            laid-fits r.ports c.ports t.ports
            (right_true (step_has (step_of t.tag t.a t.b) t.ports.count && step_named c t) _ h);
      }

port_facts : (c : Counts) (p : PortRecord) → port_good c p ≡ true → PortFacts c p
port_facts c p h =
    let two : (type_named c p.ty.0 && leb p.kind 7) ≡ true = left_true _ (eqb p.kind 6 || eqb p.b 0) h in
    record {
      type = ltb-true (idx p.ty.0) c.types (left_true (type_named c p.ty.0) (leb p.kind 7) two);
      kind = omega (arith, leb-true p.kind 7 (right_true (type_named c p.ty.0) (leb p.kind 7) two));
    }

-- a record that was judged, from some running places, and passed
record Passed (f : ℕ → Running → Option Running) (p : ℕ) : Type 0 where
  from : Running
  next : Running
  passes : f p from ≡ Some next

-- only a good record passes
passed_good : (good : Bool) (next q : Running) → cond good (Some next) None ≡ Some q → good ≡ true
passed_good true next q h = refl
passed_good false next q h = let z : ◌≡◌ {A = ℕ} 0 1 = cc in absurd (omega arith)

-- a walk that ends clean passes every record
walk_passed : (f : ℕ → Running → Option Running) (size n p : ℕ) (r q : Running) → walk f size n p r ≡ Ok q → (k : ℕ) → k < n → Passed f (p + size * k)
unfolding walk
walk_passed f size zero p r q h k l = absurd (not-suc-le-zero l)
walk_passed f size (suc n) p r q h k l = go (f p r) refl h (λ y. walk_passed f size n (p + size) y q) k l
  where
    go : (j : Option Running) → f p r ≡ j → after p j (λ y. walk f size n (p + size) y) ≡ Ok q
        → ((y : Running) → walk f size n (p + size) y ≡ Ok q → (k : ℕ) → k < n → Passed f (p + size + size * k))
        → (k : ℕ) → k < suc n → Passed f (p + size * k)
    go None e w rest k l = let z : ◌≡◌ {A = ℕ} 0 1 = cc in absurd (omega arith)
    go (Some y) e w rest zero l = subst (Passed f) (omega arith) (record { from = r; next = y; passes = e })
    go (Some y) e w rest (suc k) l = subst (Passed f) (omega arith) (rest y w k (omega arith))

-- every record of a section passes
abbrev Through : List ℕ → Counts → Section → Type 0
Through s c x = (k : ℕ) → k < count_of c x → Passed (judge x s c) (start_of c x + size_of x * k)

-- .. so does every record of every section
all_passed : (s : List ℕ) (c : Counts) (xs : List Section) (r q : Running) → walk_all s c xs r ≡ Ok q
    → (i : ℕ) → i < length xs → Through s c (get_or xs i Ports)
unfolding walk_all
all_passed s c [] r q h i l = absurd (not-suc-le-zero l)
all_passed s c (x ∷ xs) r q h i l = go (walk_section s c x r) refl h (λ y. all_passed s c xs y q) i l
  where
    go : (w : Result Running Fault) → walk_section s c x r ≡ w → onwards w (λ y. walk_all s c xs y) ≡ Ok q
        → ((y : Running) → walk_all s c xs y ≡ Ok q → (i : ℕ) → i < length xs → Through s c (get_or xs i Ports))
        → (i : ℕ) → i < length (x ∷ xs) → Through s c (get_or (x ∷ xs) i Ports)
    go (Err p) e w rest i l = let z : ◌≡◌ {A = ℕ} 0 1 = cc in absurd (omega arith)
    go (Ok y) e w rest zero l = walk_passed (judge x s c) (size_of x) (count_of c x) (start_of c x) r y e
    go (Ok y) e w rest (suc i) l = rest y w i (omega arith)

pub accepted : (s : List ℕ) (c : Counts) (r : Running) → Sized s c → walk_all s c sections (record { refs = 0; steps = 0; ports = 0 }) ≡ Ok r
    → Accepted s c
accepted s c r z h =
    let through : (i : ℕ) → i < 7 → Through s c (get_or sections i Ports) = all_passed s c sections _ r h in
    record {
      sized = z;
      layers = λ k l. let w = through 0 (omega arith) k l in layer-facts s c w.from _ (passed_good _ _ _ w.passes);
      interfaces = λ k l. let w = through 1 (omega arith) k l in interface-facts s c w.from _ (passed_good _ _ _ w.passes);
      stages = λ k l. let w = through 2 (omega arith) k l in stage-facts s c w.from _ (passed_good _ _ _ w.passes);
      locals = λ k l. let w = through 3 (omega arith) k l in local-facts c _ (passed_good _ _ _ w.passes);
      types = λ k l. let w = through 4 (omega arith) k l in type-facts _ (passed_good _ _ _ w.passes);
      steps = λ k l. let w = through 5 (omega arith) k l in step-facts c w.from _ (passed_good _ _ _ w.passes);
      ports = λ k l. let w = through 6 (omega arith) k l in port_facts c _ (passed_good _ _ _ w.passes);
    }
