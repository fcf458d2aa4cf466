use Rattle.std.proofs.Common.{◌+◌, map, arith}
use Rattle.indexset_core.proofs.CallerLemmas.{length-concat-take, more_read}
use Rattle.indexset_log.proofs.set.from_nodes.count.Goals as goal

pub loop-node-preserved : goal.loop-node-preserved
loop-node-preserved g c =
    omega (arith, c.in_ok-len.ensures.1, more_read g.Node.NodeLike.list c.args.nodes.now c.loop-node.node-index c.node-item.result (omega arith) c.node-item.is)

pub returns-in_err-len : goal.returns-in_err-len
returns-in_err-len g c =
    let list = g.Node.NodeLike.list in
    let nodes = c.args.nodes.now in
    rw c.from_residual.ensures
    (omega (
      arith,
      c.in_err-len.ensures,
      c.len.ensures.value,
      c.loop-node.invariant,
      more_read list nodes c.loop-node.node-index c.node-item.result (omega arith) c.node-item.is,
      length-concat-take (map list nodes) (c.loop-node.node-index + 1),
    ))
