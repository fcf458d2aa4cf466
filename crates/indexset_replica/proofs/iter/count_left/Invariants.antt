use Rattle.std.proofs.Common.{◌≡◌, ◌+◌, ◌≤◌, length}
use Rattle.std.below.core.specs.declared.int.usize.TheConstants.{MAX}
use Rattle.indexset_replica.proofs.iter.count_left.Given as goal

-- the number of items so far, and the items that remain
abbrev pub invariant-loop-rest : goal.invariant-loop-rest
invariant-loop-rest g l = record {
  all : l.count + length l.rest ≡ length l.fn.walk;
  fits : l.count ≤ MAX;
}

abbrev pub decreases-loop-rest : goal.decreases-loop-rest
decreases-loop-rest g l = length l.rest
