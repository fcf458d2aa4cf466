-- The elements to be read are unchanged.
use Rattle.std.proofs.Common.{◌≡◌, length}
use Rattle.indexset_set.specs.Merge.{of_both, read}
use Rattle.indexset_set.proofs.algebra.intersection_walk.IntersectionIterator.next.Given as goal

abbrev pub invariant-loop-self : goal.invariant-loop-self
invariant-loop-self g l = read of_both l.initial.self-inside.merge ≡ read of_both l.self-inside.merge

abbrev pub decreases-loop-self : goal.decreases-loop-self
decreases-loop-self g l = length l.self-inside.merge
