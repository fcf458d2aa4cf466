use Rattle.std.proofs.Common.{◌≡◌, ◌≤◌, length, map, min, sum_by, take}
use Rattle.std.below.core.specs.declared.int.usize.TheConstants.{MAX}
use Rattle.indexset_core.specs.Nodes.{concat}
use Rattle.indexset_log.proofs.nodes.capacity_of.Given as goal

abbrev pub invariant-loop-node : goal.invariant-loop-node
invariant-loop-node g l = record {
  value : l.room ≡ min MAX (sum_by g.Node.NodeLike.room (take l.node-index l.nodes));
  enough : min MAX (length (concat (take l.node-index (map g.Node.NodeLike.list l.nodes)))) ≤ l.room;
}
