use Rattle.std.proofs.Common.{◌≡◌, length, map, take}
use Rattle.indexset_core.specs.Nodes.{concat}
use Rattle.indexset_core.proofs.item_iter.ItemIter.item_count.Given as goal

abbrev pub invariant-loop-node : goal.invariant-loop-node
invariant-loop-node g l = l.count ≡ length (concat (take l.node-index (map g.R.NodeItems.list l.middle)))
