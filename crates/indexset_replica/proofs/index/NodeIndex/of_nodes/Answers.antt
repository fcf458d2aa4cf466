use Rattle.std.proofs.Common.{ap, sum, arith}
use Rattle.indexset_core.specs.Nodes.{node_lengths, vec_items}
use Rattle.indexset_core.proofs.CallerLemmas.{length-concat}
use Rattle.indexset_index.proofs.CallerLemmas.{sum-blocks}
use Rattle.indexset_replica.proofs.index.NodeIndex.of_nodes.Goals as goal

pub from_nodes-requires : goal.from_nodes-requires
from_nodes-requires g c = omega (arith, c.in-Some.ensures.total, c.in-Some.ensures.fits, length-concat (vec_items c.args.nodes.now))

pub invariant_of-result : goal.invariant_of-result
invariant_of-result g c =
    let ns = vec_items c.args.nodes.now in
    omega (arith, c.in-Some.ensures.total, length-concat ns, ap sum c.in_ok-blocks.ensures.sums, sum-blocks (node_lengths ns))
