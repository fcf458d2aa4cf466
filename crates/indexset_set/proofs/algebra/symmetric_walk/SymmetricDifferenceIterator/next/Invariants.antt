-- The elements to be read are unchanged.
use Rattle.std.proofs.Common.{◌≡◌, length}
use Rattle.indexset_set.specs.Merge.{of_one_alone, read}
use Rattle.indexset_set.proofs.algebra.symmetric_walk.SymmetricDifferenceIterator.next.Given as goal

abbrev pub invariant-loop-x : goal.invariant-loop-x
invariant-loop-x g l = read of_one_alone l.initial.self-inside.merge ≡ read of_one_alone l.self-inside.merge

abbrev pub decreases-loop-x : goal.decreases-loop-x
decreases-loop-x g l = length l.self-inside.merge
