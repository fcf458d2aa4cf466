use Rattle.indexset_spine.proofs.NodeListLemmas.{spot_reads}
use Rattle.indexset_spine.proofs.spine.Spine.item.Goals as goal

pub returns : goal.returns
returns g c = spot_reads _ _ c.args.self.now c.args.spot.now _ _ c.self.view_is c.requires c.index.ensures c.index-2.ensures
