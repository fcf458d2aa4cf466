use Rattle.std.proofs.Common.{ap}
use Rattle.indexset_spine.specs.NodeList.{items}
use Rattle.indexset_core.proofs.CallerLemmas.{parted_by_item}
use Rattle.indexset_set.proofs.SetNodeLemmas.{spot_for}
use Rattle.indexset_set.proofs.lookup.locate_near.Goals as goal

pub returns : goal.returns
returns g c =
    let parted = parted_by_item g.T.Ord.cmp g.met.T.Ord.total (items c.args.spine.now) c.requires c.args.value.now in
    spot_for g.T.Ord.cmp c.args.spine.now _ _ parted (ap (λ p. p.0) c.new.ensures) _ c.locate_near_by.ensures.spot
