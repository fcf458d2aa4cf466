use Rattle.std.proofs.Common.{◌≡◌, ◌&&◌, drop}
use Rattle.std.specs.Cmp.Lexicographic.{pointwise}
use Rattle.indexset_spine.proofs.iter.runs.are_equal.Given as goal

-- what was found, and what is left to be compared, decide
abbrev pub invariant-loop-i : goal.invariant-loop-i
invariant-loop-i g l = (l.same && pointwise g.T.PartialEq.eq (drop l.i l.left) (drop l.i l.right)) ≡ pointwise g.T.PartialEq.eq l.left l.right
