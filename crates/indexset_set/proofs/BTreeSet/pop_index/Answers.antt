use Rattle.std.proofs.Common.{length, ◌<◌}
use Rattle.indexset_spine.specs.NodeList.{items}
use Rattle.indexset_core.proofs.CallerLemmas.{remove_ascending}
use Rattle.indexset_set.proofs.BTreeSet.pop_index.Goals as goal

pub invariant_of-self : goal.invariant_of-self
invariant_of-self g c =
    let at = rw c.unwrap-spot.ensures at c.spot.ensures in
    let inside : c.args.i < length (items c.self.inside.spine) = rw c.self.view_is c.requires in
    rw (c.remove.ensures.items, at.1) (remove_ascending g.T.Ord.cmp _ _ inside c.self.invariant)

pub returns-clause-nodes : goal.returns-clause-nodes
returns-clause-nodes g c =
    let at = rw c.unwrap-spot.ensures at c.spot.ensures in
    rw (← c.self.view_is) (c.unwrap-spot.result, at.0, at.1, c.remove.ensures.nodes)
