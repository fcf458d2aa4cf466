-- The values before the iterator were increased by 10, and the others are unchanged.
use Rattle.std.proofs.Common.{◌-◌}
use Rattle.indexset_map.specs.ValuesWalk.{values_walk}
use Rattle.indexset_map.specs.Walk.{HasWritten, walk_back, walk_front}
use Rattle.test_units.specs.Callers.{more}
use Rattle.test_units.proofs.callers.add_ten_to_values.Given as goal

abbrev pub invariant-loop-value : goal.invariant-loop-value
invariant-loop-value l = HasWritten (λ p. more 10 p.value) (values_walk l.initial.values) (values_walk l.values)

abbrev pub decreases-loop-value : goal.decreases-loop-value
decreases-loop-value l = walk_back (values_walk l.values) - walk_front (values_walk l.values)
