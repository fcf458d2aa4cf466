use Rattle.std.proofs.Common.{length}
use Rattle.indexset_uses.proofs.idioms.maps.drain.Given as goal

abbrev pub decreases-loop-value : goal.decreases-loop-value
decreases-loop-value l = length l.map.pairs
