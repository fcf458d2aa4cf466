-- The values before the iterator were increased by 10, and the others are unchanged.
use Rattle.std.proofs.Common.{◌+◌, ◌-◌, ◌^◌, min}
use Rattle.indexset.specs.Words.{HasWritten, walk_back, walk_front}
use Rattle.indexset_uses.proofs.prices.raise.Given as goal

abbrev pub invariant-loop-walk : goal.invariant-loop-walk
invariant-loop-walk l = HasWritten (λ pair. min (pair.value + 10) (2 ^ 64 - 1)) l.initial.walk l.walk

abbrev pub decreases-loop-walk : goal.decreases-loop-walk
decreases-loop-walk l = walk_back l.walk - walk_front l.walk
