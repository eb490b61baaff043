use mathlib.Core.Path.{◌∙◌}
use lib.Seq.{length-take-le}
use Rattle.image.specs.View.{view}
use Rattle.building.proofs.Filling.{filled_all}
use Rattle.building.proofs.fill.fill_segments.Goals as goal

pub returns : goal.returns
returns c =
    let a = c.args in
    let z = a.z in
    filled_all (view a.image.now.records.bytes.now) a.inv a.l.0 z _ _ _ _ _ c.touch_all.new.effects _ _ c.requires.fillable
    (c.exchange_all.auto.effects ∙ c.touch_all.auto.effects ∙ c.copy_from_slice.ensures.len ∙ length-take-le z.vars a.effects.now c.requires.vars_in_bounds.1)
    c.copy_from_slice.ensures.after
    c.touch_all.ensures
    c.exchange_all.ensures
