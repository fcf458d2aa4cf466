use Rattle.std.proofs.Common.{◌≡◌, ◌-◌, length, map, take}
use Rattle.indexset_core.specs.Nodes.{node_lengths}
use Rattle.indexset_index.proofs.fenwick.Fenwick.rebuild_from.Given as goal

abbrev pub invariant-loop-self : goal.invariant-loop-self
invariant-loop-self g l =
    record {
      same : l.self.lengths ≡ take (length l.self.lengths) (node_lengths (map g.R.NodeItems.list l.nodes));
      room : l.self.room ≡ l.fn.self.room;
    }

abbrev pub decreases-loop-self : goal.decreases-loop-self
decreases-loop-self g l = length l.nodes - length l.self.lengths
