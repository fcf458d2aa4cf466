use Rattle.std.proofs.Common.{◌≡◌, false, take}
use Rattle.indexset_multi.specs.Attach.{free_number, has_greatest}
use Rattle.indexset_multi.proofs.multimap.attach.free_number.Given as goal

abbrev pub invariant-loop-pair : goal.invariant-loop-pair
invariant-loop-pair g l = (l.free ≡ free_number (take l.pair-index l.pairs)) × (has_greatest (take l.pair-index l.pairs) ≡ false)
