use Rattle.std.proofs.Common.{◌≡◌, map, take}
use Rattle.indexset_core.specs.Nodes.{node_lengths}
use Rattle.indexset_index.specs.Blocks.{block_sums}
use Rattle.indexset_index.proofs.blocks.Blocks.rebuild.Given as goal

abbrev pub invariant-loop-block : goal.invariant-loop-block
invariant-loop-block g l =
    record {
      same : l.self-inside.sums.lengths ≡ take l.block (block_sums (node_lengths (map g.R.NodeItems.list l.nodes)));
      room : l.self-inside.sums.room ≡ l.fn.self.room;
    }
