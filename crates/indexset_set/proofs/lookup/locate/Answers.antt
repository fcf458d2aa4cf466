use Rattle.std.proofs.Common.{ap}
use Rattle.indexset_spine.specs.NodeList.{items}
use Rattle.indexset_core.proofs.CallerLemmas.{parted_by_sought}
use Rattle.indexset_set.proofs.SetNodeLemmas.{spot_for}
use Rattle.indexset_set.proofs.lookup.locate.Goals as goal

pub locate_by-requires : goal.locate_by-requires
locate_by-requires g c = parted_by_sought g.met.Q.LookupKey.acts_as_key (items c.args.spine.now) c.requires c.new.result.0

pub returns : goal.returns
returns g c =
    let parted = parted_by_sought g.met.Q.LookupKey.acts_as_key (items c.args.spine.now) c.requires c.args.value in
    spot_for g.Q.LookupKey.order c.args.spine.now _ _ parted (ap (λ p. p.0) c.new.ensures) _ c.locate_by.ensures.spot
