use Rattle.std.proofs.Common.{ap, sym, arith}
use Rattle.std.proofs.lemmas.List.Sums.{sum_by_more}
use Rattle.indexset_core.proofs.CallerLemmas.{more_read}
use Rattle.indexset_log.proofs.nodes.capacity_of.Goals as goal

pub loop-node-preserved : goal.loop-node-preserved
loop-node-preserved g c =
    let list = g.Node.NodeLike.list in
    let room = g.Node.NodeLike.room in
    let nodes = c.args.nodes.now in
    let i = c.loop-node.node-index in
    let v = c.node-item.result in
    let grown = sum_by_more room nodes i v (omega arith) in
    let here = ap room (sym c.node-item.is) in
    record {
      value = omega (arith, grown, here, c.loop-node.invariant.value);
      enough = omega (arith, more_read list nodes i v (omega arith) c.node-item.is, c.capacity.ensures.enough, c.loop-node.invariant.enough);
    }
