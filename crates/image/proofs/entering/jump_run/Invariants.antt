use mathlib.Core.Path.{◌≡◌}
use mathlib.Core.Bool.{true}
use Rattle.std.specs.Prelude.{is_some, IfSome}
use Rattle.records.specs.declared.layout.Section.TheVariants.{Steps}
use Rattle.records.specs.Layout.{place_of}
use Rattle.image.specs.Entering.{action_at, enters_of, diverges_of, enterable, lies_in, actions_of}
use Rattle.image.specs.Kind.{all, concat}
use Rattle.image.specs.Tally.{tally}
use Rattle.image.specs.Viewed.{viewed}
use Rattle.image.proofs.Passing.{Passing, Counting}
use Rattle.image.proofs.entering.jump_run.Given as goal

-- the steps from k on, which stands at p
abbrev pub invariant-loop-k : goal.invariant-loop-k
invariant-loop-k l =
    let r = l.layered.image.records in
    let h = action_at r.bytes.now r.counts in
    let actions = actions_of r.bytes.now r.counts l.fn.run in
    let enters = enters_of (viewed r) in
    let enter = enterable (viewed r) l.l.0 in
    let lies = lies_in (viewed r) l.l.0 in
    record {
      entered : Passing enter enters h (all enter (concat enters actions)) l.k l.k-end l.entered;
      counted : Counting enters h (tally (concat enters actions) l.initial.counts) l.k l.k-end l.counts;
      out : Passing lies diverges_of h (all lies (concat diverges_of actions)) l.k l.k-end (is_some l.known);
      stands : l.p ≡ place_of r.counts Steps l.k;
      known : IfSome l.known (λ m. lies m.0 ≡ true);
    }
