use mathlib.Core.Path.{◌≡◌, ◌∙◌, sym}
use mathlib.Core.Bool.{true}
use borrow.Author.Tests.{not-true, not-false}
use Rattle.image.specs.LayerRules.{parents_below, listed_by_own_layer, listed_once, interfaces_lie, entered_from_parent}
use Rattle.image.specs.Viewed.{viewed}
use Rattle.image.proofs.Ruling.{rule_parents, rule_own, rule_once, rule_lie, rule_parent, rule_entered, rule_diverges, once_counted, entered-counted}
use Rattle.image.proofs.check.layer_rules.Goals as goal
use Rattle.image.proofs.check.layer_rules.Goals.{Else-not-parents_below, Else-not-own_all, Else-not-counted, Else-not-interfaces_lie, Else-not-jumps}

-- each test that passed says a rule of the view
below : (c : Else-not-parents_below) → parents_below (viewed c.args.image.now.records) ≡ true
below c = sym c.parents_below.ensures ∙ c.if-not-parents_below.false

own : (c : Else-not-own_all) → listed_by_own_layer (viewed c.args.image.now.records) ≡ true
own c = sym c.own_all.ensures.0 ∙ c.if-not-own_all.false

once : (c : Else-not-counted) → listed_once (viewed c.args.image.now.records) ≡ true
once c =
    once_counted c.args.image.now.records.bytes.now c.args.image.now.records.counts c.args.image.now.records.sized _ c.own_all.ensures.1
    ∙ sym c.counted.ensures ∙ c.if-not-counted.false

lie : (c : Else-not-interfaces_lie) → interfaces_lie (viewed c.args.image.now.records) ≡ true
lie c = sym c.interfaces_lie.ensures ∙ c.if-not-interfaces_lie.false

from_parent : (c : Else-not-jumps) → entered_from_parent (viewed c.args.image.now.records) ≡ true
from_parent c = sym c.jump_all-jumps.ensures.0 ∙ not-false _ c.if-not-jumps.false

-- .. and the first that fails says which one does not hold
pub returns-then-not-parents_below : goal.returns-then-not-parents_below
returns-then-not-parents_below c =
    rule_parents (viewed c.args.image.now.records) (sym c.parents_below.ensures ∙ c.if-not-parents_below.true)

pub returns-then-not-own_all : goal.returns-then-not-own_all
returns-then-not-own_all c =
    rule_own (viewed c.args.image.now.records) (below (goal.at.returns-then-not-own_all c).Else-not-parents_below)
    (sym c.own_all.ensures.0 ∙ c.if-not-own_all.true)

pub returns-then-not-counted : goal.returns-then-not-counted
returns-then-not-counted c =
    let at = goal.at.returns-then-not-counted c in
    rule_once (viewed c.args.image.now.records) (below at.Else-not-parents_below) (own at.Else-not-own_all)
    (once_counted c.args.image.now.records.bytes.now c.args.image.now.records.counts c.args.image.now.records.sized _ c.own_all.ensures.1
    ∙ sym c.counted.ensures ∙ c.if-not-counted.true)

pub returns-then-not-interfaces_lie : goal.returns-then-not-interfaces_lie
returns-then-not-interfaces_lie c =
    let at = goal.at.returns-then-not-interfaces_lie c in
    rule_lie (viewed c.args.image.now.records) (below at.Else-not-parents_below) (own at.Else-not-own_all) (once at.Else-not-counted)
    (sym c.interfaces_lie.ensures ∙ c.if-not-interfaces_lie.true)

pub invariant_of-layered : goal.invariant_of-layered
invariant_of-layered c =
    let at = goal.at.invariant_of-layered c in
    record {
      below = below at.Else-not-parents_below;
      own = own at.Else-not-own_all;
      once = once at.Else-not-counted;
      lie = lie at.Else-not-interfaces_lie;
    }

pub returns-then-not-jumps : goal.returns-then-not-jumps
returns-then-not-jumps c =
    let at = goal.at.returns-then-not-jumps c in
    rule_parent (viewed c.args.image.now.records) (below at.Else-not-parents_below) (own at.Else-not-own_all) (once at.Else-not-counted)
    (lie at.Else-not-interfaces_lie)
    (sym c.jump_all-jumps.ensures.0 ∙ not-true _ c.if-not-jumps.true)

pub returns-then-not-entered_once : goal.returns-then-not-entered_once
returns-then-not-entered_once c =
    let at = goal.at.returns-then-not-entered_once c in
    rule_entered (viewed c.args.image.now.records) (below at.Else-not-parents_below) (own at.Else-not-own_all) (once at.Else-not-counted)
    (lie at.Else-not-interfaces_lie)
    (from_parent at.Else-not-jumps)
    (entered-counted c.args.image.now.records.bytes.now c.args.image.now.records.counts c.args.image.now.records.sized _ c.jump_all-jumps.ensures.1
    ∙ sym c.entered_once.ensures ∙ c.if-not-entered_once.true)

pub returns : goal.returns
returns c =
    let at = goal.at.returns c in
    rule_diverges (viewed c.args.image.now.records) (below at.Else-not-parents_below) (own at.Else-not-own_all) (once at.Else-not-counted)
    (lie at.Else-not-interfaces_lie)
    (from_parent at.Else-not-jumps)
    (entered-counted c.args.image.now.records.bytes.now c.args.image.now.records.counts c.args.image.now.records.sized _ c.jump_all-jumps.ensures.1
    ∙ sym c.entered_once.ensures ∙ c.if-not-entered_once.false)
    c.jump_all-jumps.ensures.2
