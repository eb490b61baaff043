use borrow.Author.Tests.{eq-eqb, ne_eqb}
use Rattle.rules.proofs.Asked.{other_asked_lem}
use Rattle.rules.proofs.faults.other_has.Goals as goal

pub returns-then-tag : goal.returns-then-tag
returns-then-tag c a b =
    let args = c.args in
    other_asked_lem args.tag a b args.count c.requires.le_tag c.requires.tag_bound (simp c.if-tag.true)

pub returns-then-tag-eq10 : goal.returns-then-tag-eq10
returns-then-tag-eq10 c a b =
    let args = c.args in
    other_asked_lem args.tag a b args.count c.requires.le_tag c.requires.tag_bound (simp (c.if-tag.false, eq-eqb _ _ c.if-tag-eq10.true))

pub returns-then-tag-2 : goal.returns-then-tag-2
returns-then-tag-2 c a b =
    let args = c.args in
    other_asked_lem args.tag a b args.count c.requires.le_tag c.requires.tag_bound (simp (c.if-tag.false, ne_eqb _ _ c.if-tag-eq10.false, c.if-tag-2.true))

pub returns : goal.returns
returns c a b =
    let args = c.args in
    other_asked_lem args.tag a b args.count c.requires.le_tag c.requires.tag_bound (simp (c.if-tag.false, ne_eqb _ _ c.if-tag-eq10.false, c.if-tag-2.false))
