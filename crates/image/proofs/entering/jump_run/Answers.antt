use mathlib.Core.Path.{◌∙◌, ap}
use native.Mathlib.Omega.{arith}
use mathlib.Core.Bool.{Bool, ◌&&◌}
use Rattle.image.proofs.Climbing.{lies_in_itself}
use Rattle.image.proofs.Passing.{passing_start, passing_on, passing_end, counting_start, counting_on, counting_end}
use Rattle.image.proofs.entering.jump_run.Goals as goal

pub loop-k-init : goal.loop-k-init
loop-k-init c = record {
  entered = passing_start _ _ _ c.args.run c.start-k.ensures c.end-k-end.ensures;
  counted = counting_start _ _ c.args.run _ c.start-k.ensures c.end-k-end.ensures;
  out = passing_start _ _ _ c.args.run c.start-k.ensures c.end-k-end.ensures;
  stands = omega (arith, c.steps_at.ensures, c.start.ensures, c.start-k.ensures);
  known = lies_in_itself _ _ c.args.l.0 c.requires.l_lt_layers;
}

pub loop-k-preserved : goal.loop-k-preserved
loop-k-preserved c =
    let ahead = c.loop-k.invariant in
    let more = c.loop-k-test.true in
    let jumped = c.jump_step-enters.ensures in
    record {
      entered = passing_on ahead.entered more (ap (λ (b : Bool). c.loop-k.entered && b) jumped.entered.0);
      counted = counting_on ahead.counted more jumped.entered.1;
      out = passing_on ahead.out more jumped.out.0;
      stands = omega (arith, ahead.stands);
      known = jumped.out.1;
    }

pub jump_step-enters-requires-clause-stands : goal.jump_step-enters-requires-clause-stands
jump_step-enters-requires-clause-stands c = c.loop-k.invariant.stands

pub returns : goal.returns
returns c =
    let ahead = c.loop-k.invariant in
    let done = c.loop-k-test.false in
    (passing_end ahead.entered done, counting_end ahead.counted done, c.is_some.ensures ∙ passing_end ahead.out done)
