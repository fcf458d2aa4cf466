use Rattle.indexset_log.proofs.TreeViewLemmas.{held}
use Rattle.indexset_events.proofs.NodeViewLemmas.{lawful_filled}
use Rattle.indexset_log.proofs.set.BTreeSet.place_to.Goals as goal

pub place_to-requires-clause-filled : goal.place_to-requires-clause-filled
place_to-requires-clause-filled g c = rw c.as_slice.ensures.value (λ _. lawful_filled g.T.Ord.cmp c.self.inside.size _ c.self.invariant.tree.lawful)

pub place_to-requires-clause-parted : goal.place_to-requires-clause-parted
place_to-requires-clause-parted g c =
    let t = held g.Node.NodeLike.list c.self.inside.nodes.items c.self.view_is c.self.invariant in
    rw (c.as_slice.ensures.value, t.same) c.requires

pub returns-clause-place : goal.returns-clause-place
returns-clause-place g c =
    let t = held g.Node.NodeLike.list c.self.inside.nodes.items c.self.view_is c.self.invariant in
    rw (c.as_slice.ensures.value, t.same) at c.place_to.ensures.place

pub returns-clause-before : goal.returns-clause-before
returns-clause-before g c =
    let t = held g.Node.NodeLike.list c.self.inside.nodes.items c.self.view_is c.self.invariant in
    rw (c.as_slice.ensures.value, t.same) at c.place_to.ensures.before
