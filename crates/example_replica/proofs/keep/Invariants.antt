-- The replica has the nodes of the map.
use Rattle.std.proofs.Common.{◌≡◌}
use Rattle.example_replica.proofs.keep.Given as goal

abbrev pub invariant-loop-line : goal.invariant-loop-line
invariant-loop-line l = l.copy.nodes ≡ l.names.nodes
