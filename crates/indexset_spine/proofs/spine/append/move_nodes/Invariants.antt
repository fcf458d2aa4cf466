-- The items of the first nodes, and maybe some of the next, are appended to the spine.
use Rattle.std.proofs.Common.{◌≡◌, ℕ, ◌-◌, ◌≤◌, [], length, take}
use Rattle.std.specs.List.{All}
use Rattle.indexset_core.specs.Nodes.{concat, node_lengths, vec_items}
use Rattle.indexset_spine.specs.NodeList.{with_last}
use Rattle.indexset_spine.specs.Edits.{FoldsPrefix}
use Rattle.indexset_spine.proofs.spine.append.move_nodes.Given as goal

abbrev pub invariant-loop-k : goal.invariant-loop-k
invariant-loop-k g l = record {
  moved : FoldsPrefix (with_last l.initial.spine.size) l.initial.spine.nodes (concat (vec_items l.initial.from.items)) l.spine.nodes (concat (vec_items l.from.items));
  emptied : concat (take l.k (vec_items l.from.items)) ≡ [];
  size : l.spine.size ≡ l.initial.spine.size;
  as_many : length l.from.items ≡ length l.initial.from.items;
  bounded : (n : ℕ) → All (λ i. i ≤ n) (node_lengths (vec_items l.initial.from.items)) → All (λ i. i ≤ n) (node_lengths (vec_items l.from.items));
}

abbrev pub decreases-loop-k : goal.decreases-loop-k
decreases-loop-k g l = length l.from.items - l.k
