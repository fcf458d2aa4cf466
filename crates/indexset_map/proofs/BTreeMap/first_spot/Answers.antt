use Rattle.indexset_map.proofs.SpotLemmas.{end_place}
use Rattle.indexset_map.proofs.BTreeMap.first_spot.Goals as goal

pub returns : goal.returns
returns g c = end_place c.self.inside.set c.args.self.now 0 c.self.view_is c.first_spot.result c.first_spot.ensures
