use Rattle.indexset_set.specs.SetProbes.{FindsInOrder}
use Rattle.indexset_ffi.proofs.set_calls.cursor_from.Goals as goal

pub find-requires-clause-parted : goal.find-requires-clause-parted
unfolding FindsInOrder
find-requires-clause-parted c = rw c.nodes.ensures (c.len.ensures.in_order c.new.result.0)
