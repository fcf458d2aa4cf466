use Rattle.std.proofs.Common.{◌≡◌, ◌+◌, ◌++◌, length, map}
use Rattle.indexset_core.specs.Nodes.{concat}
use Rattle.indexset_core.proofs.item_iter.ItemIterDoubleEndedIterator.next_back.Given as goal

abbrev pub invariant-loop-last : goal.invariant-loop-last
invariant-loop-last g l = l.self-inside.front.now ++ (concat (map g.R.NodeItems.list l.self-inside.middle.now) ++ l.self-inside.back.now) ≡ l.fn.self

abbrev pub decreases-loop-last : goal.decreases-loop-last
decreases-loop-last g l = length l.self-inside.middle.now + length l.self-inside.front.now
