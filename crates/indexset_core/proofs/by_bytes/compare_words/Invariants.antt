use Rattle.std.proofs.Common.{◌≡◌, length}
use Rattle.std.specs.Cmp.Lexicographic.{slice_cmp}
use Rattle.std.specs.Ordering.{nat_cmp}
use Rattle.indexset_core.proofs.WordLemmas.{AreBytes}
use Rattle.indexset_core.proofs.by_bytes.compare_words.Given as goal

-- the remaining bytes decide
abbrev pub invariant-loop-left : goal.invariant-loop-left
invariant-loop-left l = record {
  small : AreBytes l.left;
  other : AreBytes l.right;
  decides : slice_cmp nat_cmp l.left l.right ≡ slice_cmp nat_cmp l.fn.first l.fn.second;
}

abbrev pub decreases-loop-left : goal.decreases-loop-left
decreases-loop-left l = length l.left
