use Rattle.std.proofs.Common.{◌≡◌, ◌≤◌, length, take, vec_len, vec_capacity}
use Rattle.std.specs.List.{AllZip}
use Rattle.indexset_core.specs.Nodes.{vec_items}
use Rattle.indexset_spine.proofs.spine.make.clone_nodes.Given as goal

abbrev pub invariant-loop-node : goal.invariant-loop-node
invariant-loop-node g l = record {
  count : vec_len l.copies ≡ l.node-index;
  room : length l.nodes ≤ vec_capacity l.copies;
  cloned : AllZip (AllZip g.T.Clone.is_clone) (take l.node-index (vec_items l.nodes)) (vec_items l.copies.items);
}
