use Rattle.std.proofs.Common.{map}
use Rattle.indexset_events.proofs.CallerLemmas.{follow_lawful}
use Rattle.indexset_log.proofs.set.BTreeSet.from_nodes.Goals as goal

pub invariant_of-result : goal.invariant_of-result
invariant_of-result g c = record {
  tree = record {
    lawful = follow_lawful g.T.Ord.cmp g.met.T.Ord.total c.args.size (map g.Node.NodeLike.list c.args.nodes.items) (rw c.as_slice.ensures.value at c.in-Ok.ensures.good);
    two = c.requires.two;
    within = c.requires.within;
    counted = rw c.as_slice.ensures.value at c.in-Ok.ensures.len;
  };
  index_is = rw c.as_slice.ensures.value at c.in-Ok.ensures.index;
}
