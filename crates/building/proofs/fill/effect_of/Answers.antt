use Rattle.building.proofs.Filling.{effect_told}
use Rattle.building.proofs.fill.effect_of.Goals as goal

pub returns : goal.returns
returns c = effect_told c.args.n c.try_from.result c.map_or.result c.try_from.ensures c.map_or.ensures
