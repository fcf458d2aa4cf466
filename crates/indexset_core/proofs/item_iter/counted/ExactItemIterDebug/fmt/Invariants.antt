use Rattle.std.proofs.Common.{length}
use Rattle.indexset_core.proofs.item_iter.counted.ExactItemIterDebug.fmt.Given as goal

abbrev pub decreases-loop-item : goal.decreases-loop-item
decreases-loop-item g l = length l.rest
