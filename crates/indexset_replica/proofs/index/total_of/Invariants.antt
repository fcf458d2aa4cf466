use Rattle.std.proofs.Common.{◌≡◌, ◌^◌, ◌<◌, length, take}
use Rattle.indexset_core.specs.Nodes.{concat, vec_items}
use Rattle.indexset_replica.proofs.index.total_of.Given as goal

abbrev pub invariant-loop-node : goal.invariant-loop-node
invariant-loop-node g l =
    record {
      value : l.total ≡ length (concat (take l.node-index (vec_items l.nodes)));
      fits : l.total < 2 ^ 64;
    }
