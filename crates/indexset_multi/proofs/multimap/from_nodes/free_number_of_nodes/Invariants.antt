use Rattle.std.proofs.Common.{◌≡◌, false, map, take}
use Rattle.indexset_core.specs.Nodes.{concat}
use Rattle.indexset_multi.specs.Attach.{free_number, has_greatest}
use Rattle.indexset_multi.proofs.multimap.from_nodes.free_number_of_nodes.Given as goal

abbrev pub invariant-loop-node : goal.invariant-loop-node
invariant-loop-node g l = record {
  free : l.free ≡ free_number (concat (take l.node-index (map g.Node.NodeLike.list l.nodes)));
  none : has_greatest (concat (take l.node-index (map g.Node.NodeLike.list l.nodes))) ≡ false;
}
