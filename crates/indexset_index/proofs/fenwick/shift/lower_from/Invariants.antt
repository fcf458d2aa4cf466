use Rattle.std.proofs.Common.{◌+◌, ◌-◌, ◌*◌, ◌<◌, length, map}
use Rattle.indexset_core.specs.Nodes.{node_lengths}
use Rattle.indexset_index.specs.Blocks.{block_sums}
use Rattle.indexset_index.specs.Fenwick.{lengths_of}
use Rattle.indexset_index.proofs.CellLemmas.{IsShifted}
use Rattle.indexset_index.proofs.fenwick.shift.lower_from.Given as goal

abbrev pub invariant-loop-i : goal.invariant-loop-i
invariant-loop-i g l =
    record {
      cells : IsShifted (lengths_of l.initial.cells) (block_sums (node_lengths (map g.R.NodeItems.list l.nodes))) l.cells l.i;
      past : l.k < 32 * l.i;
    }

abbrev pub decreases-loop-i : goal.decreases-loop-i
decreases-loop-i g l = length l.initial.cells + 1 - l.i
