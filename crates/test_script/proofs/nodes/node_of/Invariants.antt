use Rattle.indexset_core.specs.Order.{IsAscending}
use Rattle.test_script.proofs.nodes.node_of.Given as goal

abbrev pub invariant-loop-value : goal.invariant-loop-value
invariant-loop-value g l = IsAscending g.T.Ord.cmp (g.Node.NodeLike.list l.node)
