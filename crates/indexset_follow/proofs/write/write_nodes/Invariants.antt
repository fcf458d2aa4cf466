use Rattle.std.proofs.Common.{◌≡◌, ◌++◌, length}
use Rattle.std.specs.Io.KnownBytes.{Appends}
use Rattle.indexset_bench.specs.PairText.{lines_for, node_text}
use Rattle.indexset_follow.specs.Reads.{PairNodes}
use Rattle.indexset_follow.proofs.write.write_nodes.Given as goal

abbrev pub invariant-loop-node : goal.invariant-loop-node
invariant-loop-node g l =
    (done : PairNodes _) × (done ++ g.N.WalkNodes.rest l.walk ≡ g.N.WalkNodes.rest l.fn.nodes)
    × Appends (g.W.Write.contents l.fn.writer) (g.W.Write.contents l.writer) (lines_for (node_text g.T.Item.texts) done)

abbrev pub decreases-loop-node : goal.decreases-loop-node
decreases-loop-node g l = length (g.N.WalkNodes.rest l.walk)
