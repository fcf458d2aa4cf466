use Rattle.std.proofs.Common.{arith, tests, append_assoc}
use Rattle.indexset_spine.proofs.RunLemmas.{pointwise-append}
use Rattle.indexset_spine.proofs.iter.runs.have_equal_items.Goals as goal

pub returns-then-not-are_equal : goal.returns-then-not-are_equal
returns-then-not-are_equal g c = grind (arith, tests, append_assoc, pointwise-append)

pub loop-left-preserved : goal.loop-left-preserved
loop-left-preserved g c = grind (arith, tests, append_assoc, pointwise-append)
