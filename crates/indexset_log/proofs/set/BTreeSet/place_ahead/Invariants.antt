use Rattle.std.proofs.Common.{◌-◌, ◌≡◌, ◌+◌, ◌<◌, ◌≤◌, length}
use Rattle.indexset_core.specs.Nodes.{node_at}
use Rattle.indexset_core.specs.Places.{items_before}
use Rattle.indexset_log.proofs.set.BTreeSet.place_ahead.Given as goal

abbrev pub invariant-loop-offset : goal.invariant-loop-offset
invariant-loop-offset g l =
    let ns = l.self.nodes in
    record {
      node : l.node < length ns;
      offset : l.offset ≤ length (node_at ns l.node);
      sum : items_before ns (l.node, l.offset) + l.left ≡ items_before ns (l.initial.node, l.initial.offset) + l.initial.left;
    }

abbrev pub decreases-loop-offset : goal.decreases-loop-offset
decreases-loop-offset g l = length l.self.nodes - l.node
