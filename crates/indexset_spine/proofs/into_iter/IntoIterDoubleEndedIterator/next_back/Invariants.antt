use Rattle.std.proofs.Common.{◌≡◌, ◌++◌, length}
use Rattle.std.specs.Vec.Iter.{into_iter_items, into_iter_len}
use Rattle.indexset_core.specs.Nodes.{concat, vec_items}
use Rattle.indexset_spine.proofs.into_iter.IntoIterDoubleEndedIterator.next_back.Given as goal

abbrev pub invariant-loop-last : goal.invariant-loop-last
invariant-loop-last g l = record {
  rest : into_iter_items l.self-inside.front ++ (concat (vec_items (into_iter_items l.self-inside.middle)) ++ into_iter_items l.self-inside.back) ≡ l.fn.self;
  left : l.self-inside.left ≡ length l.fn.self;
}

abbrev pub decreases-loop-last : goal.decreases-loop-last
decreases-loop-last g l = into_iter_len l.self-inside.middle
