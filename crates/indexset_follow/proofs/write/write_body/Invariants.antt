use Rattle.std.proofs.Common.{◌≡◌, ◌++◌, length}
use Rattle.std.specs.Io.KnownBytes.{Appends}
use Rattle.indexset_bench.specs.PairText.{ended, lines_for}
use Rattle.indexset_follow.specs.Mark.{mark_line}
use Rattle.indexset_follow.specs.NodeLine.{node_line}
use Rattle.indexset_follow.specs.Reads.{PairNodes}
use Rattle.indexset_follow.specs.declared.mark.Mark.TheVariants.{Start}
use Rattle.indexset_follow.proofs.write.write_body.Given as goal

abbrev pub invariant-loop-node : goal.invariant-loop-node
invariant-loop-node g l =
    (done : PairNodes _) × (done ++ g.N.WalkNodes.rest l.walk ≡ g.N.WalkNodes.rest l.fn.nodes)
    × Appends (g.W.Write.contents l.fn.writer) (g.W.Write.contents l.writer) (ended (mark_line (Start l.next l.done)) ++ lines_for (node_line g.T.Item.texts) done)

abbrev pub decreases-loop-node : goal.decreases-loop-node
decreases-loop-node g l = length (g.N.WalkNodes.rest l.walk)
