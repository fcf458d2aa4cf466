-- The nodes so far, in reverse, are those of the items after the rest.
use Rattle.std.proofs.Common.{◌≡◌, ◌+◌, ◌*◌, ◌/◌, ◌<◌, ◌≤◌, [], ◌∷◌, length, take, drop, reverse, vec_len, vec_capacity}
use Rattle.indexset_core.specs.Nodes.{vec_items}
use Rattle.indexset_spine.specs.NodeList.{with_all_last}
use Rattle.indexset_spine.proofs.spine.make.nodes_of.Given as goal

abbrev pub invariant-loop-left : goal.invariant-loop-left
invariant-loop-left g l = record {
  half_is : l.half ≡ l.size / 2;
  rest : l.items.items ≡ take (l.left * l.half) l.fn.items.items;
  inside : l.left * l.half ≤ length l.fn.items.items;
  needed : 1 ≤ l.left → l.left * l.half + l.size < length l.fn.items.items + l.half;
  room : vec_len l.nodes + l.left ≤ vec_capacity l.nodes;
  nodes : reverse (vec_items l.nodes.items) ≡ with_all_last l.size ([] ∷ []) (drop (l.left * l.half) l.fn.items.items);
}

abbrev pub decreases-loop-left : goal.decreases-loop-left
decreases-loop-left g l = l.left
