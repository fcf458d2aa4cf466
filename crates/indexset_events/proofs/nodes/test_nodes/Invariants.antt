use Rattle.std.proofs.Common.{◌≡◌, map, drop, true}
use Rattle.indexset_events.specs.Attach.{refusal_after, nodes_refusal}
use Rattle.indexset_events.specs.Nodes.{is_ascending}
use Rattle.indexset_events.proofs.nodes.test_nodes.Given as goal

abbrev pub invariant-loop-node : goal.invariant-loop-node
invariant-loop-node g l = record {
  rest : nodes_refusal g.T.Ord.cmp l.size (map g.Node.NodeLike.list l.nodes) ≡ refusal_after g.T.Ord.cmp l.size l.before (map g.Node.NodeLike.list (drop l.node-index l.nodes));
  up : is_ascending g.T.Ord.cmp l.before ≡ true;
}
