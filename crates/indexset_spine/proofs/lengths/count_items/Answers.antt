use Rattle.std.proofs.Common.{◌+◌, arith}
use Rattle.indexset_core.specs.Nodes.{vec_items}
use Rattle.indexset_spine.proofs.VecNodes.{more_read}
use Rattle.indexset_core.proofs.CallerLemmas.{length-concat-take}
use Rattle.indexset_spine.proofs.lengths.count_items.Goals as goal

pub overflow_add-total : goal.overflow_add-total
overflow_add-total g c =
    let nodes = c.args.nodes.now in
    let step = more_read nodes c.loop-node.node-index c.node-item.result (omega arith) c.node-item.is in
    record { fits = omega (arith, c.node-item.result.ok, length-concat-take (vec_items nodes) (c.loop-node.node-index + 1)) }

pub loop-node-preserved : goal.loop-node-preserved
loop-node-preserved g c = omega (arith, c.node-item.result.ok, more_read c.args.nodes.now c.loop-node.node-index c.node-item.result (omega arith) c.node-item.is)
