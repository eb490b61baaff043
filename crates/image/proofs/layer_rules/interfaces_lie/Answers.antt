use mathlib.Core.Path.{◌≡◌, sym}
use native.Mathlib.Omega.{arith}
use borrow.Author.Tests.{lt-ltb, le-ltb}
use Rattle.records.specs.declared.Records.{Records}
use Rattle.records.proofs.Every.{every-zero, every-on, every_stop, every_end}
use Rattle.image.specs.Viewed.{viewed}
use Rattle.image.specs.Vir.{interface_of}
use Rattle.image.proofs.Fields.{lies_read}
use Rattle.image.proofs.Viewing.{length-layers, length-interfaces}
use Rattle.image.proofs.layer_rules.interfaces_lie.Invariants.{lies}
use Rattle.image.proofs.layer_rules.interfaces_lie.Goals as goal
use Rattle.image.proofs.layer_rules.interfaces_lie.Goals.{After-nth-interface}

read : (c : After-nth-interface) → (interface_of (viewed c.args.records.now) c.loop-i.i).layer ≡ c.nth-interface.result.layer.0
read c = lies_read c.args.records.now.bytes.now c.args.records.now.counts c.loop-i.i c.loop-i-test.true c.nth-interface.ensures

pub loop-i-init : goal.loop-i-init
loop-i-init c = every-zero _

pub loop-i-preserved : goal.loop-i-preserved
loop-i-preserved c =
    let r : Records = c.args.records.now in
    let lie = read (goal.at.loop-i-preserved c).After-nth-interface in
    every-on _ _ c.loop-i.invariant (lt-ltb _ _ (omega (arith, length-layers r.bytes.now r.counts)))

pub returns-then-records-interface : goal.returns-then-records-interface
returns-then-records-interface c =
    let r : Records = c.args.records.now in
    let lie = read (goal.at.returns-then-records-interface c).After-nth-interface in
    sym (every_stop (lies r) _ c.loop-i.i (omega (arith, length-interfaces r.bytes.now r.counts))
    (le-ltb _ _ (omega (arith, length-layers r.bytes.now r.counts))))

pub returns : goal.returns
returns c =
    let r : Records = c.args.records.now in
    let n = length-interfaces r.bytes.now r.counts in
    sym (every_end (lies r) _ c.loop-i.i (omega arith) (omega arith) c.loop-i.invariant)
