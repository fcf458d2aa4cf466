use Rattle.std.proofs.Common.{◌≡◌, ◌+◌, ◌++◌, length, map}
use Rattle.indexset_core.specs.Nodes.{concat}
use Rattle.indexset_core.proofs.item_iter.ItemIterIterator.next.Given as goal

abbrev pub invariant-loop-first : goal.invariant-loop-first
invariant-loop-first g l = l.self-inside.front.now ++ (concat (map g.R.NodeItems.list l.self-inside.middle.now) ++ l.self-inside.back.now) ≡ l.fn.self

abbrev pub decreases-loop-first : goal.decreases-loop-first
decreases-loop-first g l = length l.self-inside.middle.now + length l.self-inside.back.now
