use Rattle.std.proofs.Common.{◌≡◌, length, take}
use Rattle.indexset_core.specs.Nodes.{concat, vec_items}
use Rattle.indexset_spine.proofs.lengths.count_items.Given as goal

abbrev pub invariant-loop-node : goal.invariant-loop-node
invariant-loop-node g l = l.total ≡ length (concat (take l.node-index (vec_items l.fn.nodes)))
