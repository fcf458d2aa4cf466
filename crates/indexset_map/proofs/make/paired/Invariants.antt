-- The pairs are the entries so far.
use Rattle.std.proofs.Common.{◌≡◌, map}
use Rattle.indexset_core.specs.Pairs.{entry_of}
use Rattle.indexset_map.proofs.make.paired.Given as goal

abbrev pub invariant-loop-key : goal.invariant-loop-key
invariant-loop-key g l = map entry_of l.pairs.items ≡ l.yielded
