use Rattle.std.proofs.Common.{◌≡◌, ◌++◌, length}
use Rattle.std.specs.Cmp.Lexicographic.{pointwise}
use Rattle.indexset_spine.proofs.iter.runs.have_equal_items.Given as goal

-- what is left to be compared decides
abbrev pub invariant-loop-left : goal.invariant-loop-left
invariant-loop-left g l = pointwise g.T.PartialEq.eq (l.run ++ l.left) (l.other ++ l.right) ≡ pointwise g.T.PartialEq.eq l.fn.left l.fn.right

abbrev pub decreases-loop-left : goal.decreases-loop-left
decreases-loop-left g l = length (l.run ++ l.left)
