-- Replaying the events so far gives the nodes so far.
use Rattle.std.proofs.Common.{◌≡◌, Some, take}
use Rattle.std.specs.Cmp.Lexicographic.{slice_cmp}
use Rattle.std.specs.Ordering.{nat_cmp}
use Rattle.indexset.specs.Words.{by_key, replay}
use Rattle.example_replica.proofs.follow.Given as goal

abbrev pub invariant-loop-event : goal.invariant-loop-event
invariant-loop-event l = replay (by_key (slice_cmp nat_cmp)) l.initial.copy.nodes (take l.event-index l.events) ≡ Some l.copy.nodes
