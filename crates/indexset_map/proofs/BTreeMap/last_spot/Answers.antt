use Rattle.std.proofs.Common.{◌-◌, length}
use Rattle.indexset_map.proofs.SpotLemmas.{end_place}
use Rattle.indexset_map.proofs.BTreeMap.last_spot.Goals as goal

pub returns : goal.returns
returns g c = end_place c.self.inside.set c.args.self.now (length c.args.self.now.pairs - 1) c.self.view_is c.last_spot.result (rw (← c.self.view_is) c.last_spot.ensures)
