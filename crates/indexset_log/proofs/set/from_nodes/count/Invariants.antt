use Rattle.std.proofs.Common.{◌≡◌, length, map, take}
use Rattle.indexset_core.specs.Nodes.{concat}
use Rattle.indexset_log.proofs.set.from_nodes.count.Given as goal

abbrev pub invariant-loop-node : goal.invariant-loop-node
invariant-loop-node g l = l.len ≡ length (concat (take l.node-index (map g.Node.NodeLike.list l.nodes)))
