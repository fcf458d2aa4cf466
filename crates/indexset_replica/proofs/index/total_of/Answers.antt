use Rattle.std.proofs.Common.{arith}
use Rattle.indexset_core.proofs.CallerLemmas.{more_read}
use Rattle.indexset_replica.proofs.index.total_of.Goals as goal

pub loop-node-preserved : goal.loop-node-preserved
loop-node-preserved g c =
    let v = c.node-item.result in
    record {
      value = omega (arith, c.loop-node.invariant.value, c.in_ok-total.ensures.1, v.ok.0, more_read (λ v. v.items) c.args.nodes.now c.loop-node.node-index v (omega arith) c.node-item.is);
      fits = omega (arith, c.in_ok-total.ensures.0, c.in_ok-total.ensures.1);
    }
