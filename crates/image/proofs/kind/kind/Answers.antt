use mathlib.Core.Path.{◌≡◌, ◌∙◌, sym}
use mathlib.Core.Bool.{true}
use Rattle.image.specs.Kind.{listed, listed_by_own}
use Rattle.image.specs.Viewed.{viewed}
use Rattle.image.proofs.Deciding.{kind_unowned, listed-counted, kind_unlisted, kind-layered, kind-flat}
use Rattle.image.proofs.kind.kind.Goals as goal
use Rattle.image.proofs.kind.kind.Goals.{Else-not-own_all, Else-not-counted}

own : (c : Else-not-own_all) → listed_by_own (viewed c.args.image.now.records) ≡ true
own c = sym c.own_all.ensures.0 ∙ c.if-not-own_all.false

list : (c : Else-not-counted) → listed (viewed c.args.image.now.records) ≡ true
list c =
    let records = c.args.image.now.records in
    listed-counted records.bytes.now records.counts records.sized _ c.own_all.ensures.1 ∙ sym c.counted.ensures ∙ c.if-not-counted.false

pub returns-then-not-own_all : goal.returns-then-not-own_all
returns-then-not-own_all c =
    let records = c.args.image.now.records in
    kind_unowned records.bytes.now records.counts (sym c.own_all.ensures.0 ∙ c.if-not-own_all.true)

pub returns-then-not-counted : goal.returns-then-not-counted
returns-then-not-counted c =
    let records = c.args.image.now.records in
    let at = goal.at.returns-then-not-counted c in
    kind_unlisted records.bytes.now records.counts (own at.Else-not-own_all)
    (listed-counted records.bytes.now records.counts records.sized _ c.own_all.ensures.1 ∙ sym c.counted.ensures ∙ c.if-not-counted.true)

pub returns-then-image-ne0 : goal.returns-then-image-ne0
returns-then-image-ne0 c =
    let records = c.args.image.now.records in
    let at = goal.at.returns-then-image-ne0 c in
    kind-layered records.bytes.now records.counts (own at.Else-not-own_all) (list at.Else-not-counted) c.if-image-ne0.true

pub returns : goal.returns
returns c =
    let records = c.args.image.now.records in
    let at = goal.at.returns c in
    kind-flat records.bytes.now records.counts (own at.Else-not-own_all) (list at.Else-not-counted) c.if-image-ne0.false c.transfers_none.ensures
    c.then_some.ensures
