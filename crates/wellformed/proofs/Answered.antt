-- What check answers of a well-formed value's bytes.
use Rattle.std.specs.Prelude.{Ok}
use mathlib.Core.Path.{◌≡◌, ◌∙◌, refl, sym, ap}
use mathlib.Core.Bool.{true, ◌&&◌}
use mathlib.Core.List.{List, ◌++◌}
use Prim.Native.Nat.{ℕ, ◌+◌}
use native.Mathlib.Nat.{zero-add}
use native.Mathlib.Omega.{arith}
use lib.ListN.{length, length-append}
use borrow.Author.Tests.{eq-eqb}
use Rattle.records.specs.declared.layout.Counts.{Counts}
use Rattle.records.specs.declared.running.Running.{Running}
use Rattle.records.specs.Bytes.{u16_at}
use Rattle.judging.specs.Judge.{walk_all}
use Rattle.records.specs.Layout.{counts_of, within, length_of, sections, layers_at, interfaces_at, stages_at, locals_at, types_at, steps_at, ports_at, Sized}
use Rattle.judging.proofs.Walks.{passing_start, passing_on, passing_end}
use Rattle.image.specs.Check.{marked, owned, kind_answer, record_answer, check_of}
use Rattle.image.specs.Encode.{all_actions, stage_ports, all_ports, layer_refs, interface_refs, counts_of_vir, encode}
use Rattle.image.specs.Kind.{concat, kind_of_vir}
use Rattle.image.specs.Vir.{Vir}
use Rattle.image.proofs.Answering.{check_records, records_owned, kind_is_flat}
use Rattle.image.proofs.Reading.{counts-read, encode-length, layers-stand, interfaces-stand, stages-stand, locals-stand, types-stand, steps-stand, ports-stand, layer_refs_here, interface_refs_here, stage_refs_here, view-encode}
use Rattle.wellformed.specs.WellFormed.{WellFormed}
use Rattle.wellformed.proofs.Faultless.{at, layers-clean, interfaces-clean, stages-clean, locals-clean, types-clean, steps-clean, ports-clean}
use Rattle.wellformed.proofs.Plain.{fitting, plain}

module _ (v : Vir) (w : WellFormed v) where
  abbrev s : List ℕ
  s = encode v

  abbrev c : Counts
  c = counts_of_vir v

  -- where the refs of the layers and of the interfaces end, and the ports of the stages
  abbrev end_layers : ℕ
  end_layers = length (layer_refs v)

  abbrev end_interfaces : ℕ
  end_interfaces = length (layer_refs v) + length (interface_refs v)

  abbrev end_stages : ℕ
  end_stages = length (stage_ports v)

  refs-sum : end_interfaces + length (concat (λ t. t.declarations) v.stages) ≡ c.refs
  refs-sum =
      sym (length-append (layer_refs v ++ interface_refs v) (concat (λ t. t.declarations) v.stages)
      ∙ ap (λ (n : ℕ). n + length (concat (λ t. t.declarations) v.stages)) (length-append (layer_refs v) (interface_refs v)))

  ports-sum : end_stages + length (concat (λ a. a.ports) (all_actions v)) ≡ c.ports
  ports-sum = sym (length-append (stage_ports v) (concat (λ a. a.ports) (all_actions v)))

  clean : Ok (at c.refs c.steps c.ports) ≡ walk_all s c sections (at 0 0 0)
  clean =
      let z : Sized s c = fitting v w in
      let behind : Running = at c.refs c.steps end_stages in
      let layers =
      layers-clean s c end_layers (omega (arith, refs-sum)) (layers_at c) 0 v.layers (layers-stand v) (layer_refs_here v)
      w.layers (zero-add _) in
      let interfaces =
      interfaces-clean s c end_interfaces (omega (arith, refs-sum)) (interfaces_at c) end_layers v.interfaces (interfaces-stand v)
      (interface_refs_here v) w.interfaces refl in
      let stages =
      stages-clean s c c.refs c.steps end_stages (omega arith) (omega arith) (omega (arith, ports-sum)) (stages_at c) end_interfaces 0 0
      v.stages (stages-stand v) (stage_refs_here v) w.stages refs-sum (zero-add _) (zero-add _) in
      let locals = locals-clean s c behind (locals_at c) v.locals (locals-stand v) w.locals in
      let types = types-clean s c behind (types_at c) v.types (types-stand v) w.types in
      let steps =
      steps-clean s c z.layers z.interfaces c.refs c.steps c.ports (omega arith) (steps_at c) end_stages (all_actions v)
      (steps-stand v) w.actions ports-sum in
      let ports = ports-clean s c (at c.refs c.steps c.ports) (ports_at c) (all_ports v) (ports-stand v) w.ports in
      let p1 = passing_on (passing_start s c (at 0 0 0)) (omega arith) layers in
      let p2 = passing_on p1 (omega arith) interfaces in
      let p3 = passing_on p2 (omega arith) stages in
      let p4 = passing_on p3 (omega arith) locals in
      let p5 = passing_on p4 (omega arith) types in
      let p6 = passing_on p5 (omega arith) steps in
      passing_end (passing_on p6 (omega arith) ports) (omega arith)

mark : (v : Vir) → marked (encode v) ≡ true
unfolding encode u16_at
mark v = refl

-- they have no fault: what is left is kind and layer rules
pub written : (v : Vir) → WellFormed v → check_of (encode v) ≡ kind_answer v
written v w =
    let s : List ℕ = encode v in
    let c : Counts = counts_of_vir v in
    let same : counts_of s ≡ c = counts-read v in
    let last : Running = at c.refs c.steps c.ports in
    let own : owned (counts_of s) last ≡ true =
    ap (λ (k : Counts). owned k last) same
    ∙ (λ i. eq-eqb c.refs c.refs refl i && eq-eqb c.steps c.steps refl i && eq-eqb c.ports c.ports refl i) in
    sym (check_records s (omega (arith, encode-length v)) (mark v) (ap within same ∙ w.counted) (encode-length v ∙ sym (ap length_of same)))
    ∙ ap (record_answer s (counts_of s)) (ap (λ (k : Counts). walk_all s k sections (at 0 0 0)) same ∙ sym (clean v w))
    ∙ sym (records_owned s (counts_of s) last own)
    ∙ ap kind_answer (view-encode v (plain v w))

pub written-flat : (v : Vir) → WellFormed v → kind_of_vir v ≡ 1 → check_of (encode v) ≡ record { code = 0; place = 0; kind = 1 }
written-flat v w flat = written v w ∙ sym (kind_is_flat v (λ none. omega arith) flat)
