-- The values before the iterator were increased by 10, and the others are unchanged.
use Rattle.std.proofs.Common.{◌-◌}
use Rattle.indexset_map.specs.Walk.{HasWritten, walk_back, walk_front}
use Rattle.test_units.specs.Callers.{more}
use Rattle.test_units.proofs.callers.add_ten.Given as goal

abbrev pub invariant-loop-walk : goal.invariant-loop-walk
invariant-loop-walk l = HasWritten (λ p. more 10 p.value) l.initial.walk l.walk

abbrev pub decreases-loop-walk : goal.decreases-loop-walk
decreases-loop-walk l = walk_back l.walk - walk_front l.walk
