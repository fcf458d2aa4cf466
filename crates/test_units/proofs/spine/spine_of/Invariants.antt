use Rattle.std.proofs.Common.{◌≡◌, take}
use Rattle.indexset_spine.specs.NodeList.{items}
use Rattle.test_units.proofs.spine.spine_of.Given as goal

abbrev pub invariant-loop-value : goal.invariant-loop-value
invariant-loop-value l = items l.spine ≡ take l.value-index l.fn.values
