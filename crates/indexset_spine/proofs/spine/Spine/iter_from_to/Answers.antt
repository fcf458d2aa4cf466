use Rattle.std.proofs.Common.{length, arith, ap}
use Rattle.std.specs.Map.Iter.{deref}
use Rattle.std_collections.proofs.IterRuns.{shows_in_order, shows_in_reverse}
use Rattle.indexset_core.specs.Nodes.{concat, vec_items}
use Rattle.indexset_core.proofs.CallerLemmas.{between_le}
use Rattle.indexset_spine.specs.NodeList.{NodeList, items, position_of}
use Rattle.indexset_spine.proofs.spine.Spine.iter_from_to.Goals as goal

pub returns-clause-runs : goal.returns-clause-runs
returns-clause-runs g c = shows_in_order deref

pub returns-clause-runs_back : goal.returns-clause-runs_back
returns-clause-runs_back g c = shows_in_reverse deref

pub item_count-left-requires : goal.item_count-left-requires
item_count-left-requires g c =
    let ns = vec_items c.self.inside.nodes.items in
    let same = ap (λ (t : NodeList g.row.T.Denot). length (items t)) c.self.view_is in
    rw (c.walk_between-walk.ensures, c.as_slice.ensures.value)
    (omega (arith, between_le (concat ns) (position_of ns c.args.start.now) (position_of ns c.args.end.now), same, c.recall_lengths.ensures.fits))
