use Rattle.std.proofs.Common.{◌≡◌, [], ◌++◌, length, map}
use Rattle.indexset_core.specs.Nodes.{concat}
use Rattle.indexset_core.proofs.item_iter.ItemIter.next_chunk.Given as goal

abbrev pub invariant-loop-run : goal.invariant-loop-run
invariant-loop-run g l = record {
  rest : l.run ++ (concat (map g.R.NodeItems.list l.self-inside.middle.now) ++ l.self-inside.back.now) ≡ l.fn.self;
  front : l.self-inside.front.now ≡ [];
}

abbrev pub decreases-loop-run : goal.decreases-loop-run
decreases-loop-run g l = length l.self-inside.middle.now
