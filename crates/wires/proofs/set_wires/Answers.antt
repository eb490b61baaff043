use mathlib.Core.Path.{◌∙◌, sym, ap}
use Rattle.report.specs.Report.{half}
use Rattle.solve.specs.Tables.{effects_of}
use Rattle.wires.specs.Wires.{written}
use Rattle.wires.proofs.Crossing.{wired_by, looped_by, crossing_on, crossing_end}
use Rattle.wires.proofs.set_wires.Goals as goal
use Rattle.wires.proofs.set_wires.Goals.{in-Some, in-None}

pub loop-i-preserved : goal.loop-i-preserved
loop-i-preserved c =
    let a = c.args in
    let es = effects_of a.effects.now in
    elim c.match-at.branch [
      | in-Some w ↦
          let sides = sym w.in-Some.is ∙ c.at.ensures in
          crossing_on c.loop-i.invariant c.requires.0 c.requires.1 c.loop-i-test.true
          (wired_by es c.loop-i.i _ sides a.inv a.fork (c.half.ensures ∙ ap (λ v. half (written v.0)) w.wire-is ∙ ap half w.wire.ensures))
          (looped_by es c.loop-i.i _ sides (ap (λ v. v.1) w.wire-is ∙ w.loops.ensures))
      | in-None w ↦
          let sides = sym w.in-None.is ∙ c.at.ensures in
          crossing_on c.loop-i.invariant c.requires.0 c.requires.1 c.loop-i-test.true
          (wired_by es c.loop-i.i _ sides a.inv a.fork (c.half.ensures ∙ ap (λ v. half (written v.0)) w.wire-is))
          (looped_by es c.loop-i.i _ sides (ap (λ v. v.1) w.wire-is))
    ]

pub returns : goal.returns
returns c = crossing_end c.loop-i.invariant c.requires.0 c.loop-i-test.false
