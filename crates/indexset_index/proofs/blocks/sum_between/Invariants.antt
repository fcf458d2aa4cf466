use Rattle.std.proofs.Common.{◌≡◌, ◌+◌, ◌≤◌, map}
use Rattle.indexset_core.specs.Nodes.{node_lengths}
use Rattle.indexset_index.specs.Fenwick.{prefix_sum}
use Rattle.indexset_index.proofs.blocks.sum_between.Given as goal

abbrev pub invariant-loop-i : goal.invariant-loop-i
invariant-loop-i g l =
    let lengths = node_lengths (map g.R.NodeItems.list l.nodes) in
    record {
      value : prefix_sum lengths l.fn.start + l.total ≡ prefix_sum lengths l.i;
      within : l.i ≤ l.fn.end;
    }
