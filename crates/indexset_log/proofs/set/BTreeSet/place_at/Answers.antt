use Rattle.indexset_index.proofs.CallerLemmas.{place-found}
use Rattle.indexset_log.proofs.TreeViewLemmas.{held}
use Rattle.indexset_log.proofs.set.BTreeSet.place_at.Goals as goal

pub find-requires : goal.find-requires
find-requires g c =
    let t = held g.Node.NodeLike.list c.self.inside.nodes.items c.self.view_is c.self.invariant in
    rw (c.as_slice.ensures.value, t.same) (record { sums = t.indexed })

pub returns : goal.returns
returns g c =
    let t = held g.Node.NodeLike.list c.self.inside.nodes.items c.self.view_is c.self.invariant in
    place-found c.args.self.now.nodes c.args.i c.find.result (rw (c.as_slice.ensures.value, t.same) at c.find.ensures)
