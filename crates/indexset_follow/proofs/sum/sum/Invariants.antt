use Rattle.std.proofs.Common.{◌≡◌, ◌++◌, length}
use Rattle.sha2.specs.Hashers.{Holds256}
use Rattle.indexset_bench.specs.PairText.{ended, lines_for}
use Rattle.indexset_follow.specs.Mark.{mark_line}
use Rattle.indexset_follow.specs.NodeLine.{node_line}
use Rattle.indexset_follow.specs.Reads.{PairNodes}
use Rattle.indexset_follow.specs.declared.mark.Mark.TheVariants.{Start}
use Rattle.indexset_follow.proofs.sum.sum.Given as goal

abbrev pub invariant-loop-node : goal.invariant-loop-node
invariant-loop-node g l =
    (done : PairNodes _) × (done ++ g.N.WalkNodes.rest l.walk ≡ g.N.WalkNodes.rest l.fn.nodes)
    × Holds256 l.hasher (ended (mark_line (Start l.next l.done)) ++ lines_for (node_line g.T.Item.texts) done)

abbrev pub decreases-loop-node : goal.decreases-loop-node
decreases-loop-node g l = length (g.N.WalkNodes.rest l.walk)
