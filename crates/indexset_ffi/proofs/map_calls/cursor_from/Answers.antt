use Rattle.indexset_set.specs.SetProbes.{FindsInOrder}
use Rattle.indexset_ffi.proofs.map_calls.cursor_from.Goals as goal

pub find-requires-clause-parted : goal.find-requires-clause-parted
unfolding FindsInOrder
find-requires-clause-parted c = rw c.nodes.ensures.pairs (c.node_count.ensures.in_order c.new.result.0)
