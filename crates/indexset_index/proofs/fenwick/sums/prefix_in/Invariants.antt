use Rattle.std.proofs.Common.{◌≡◌, ◌+◌, ◌≤◌, count_ones}
use Rattle.indexset_index.specs.Fenwick.{prefix_sum}
use Rattle.indexset_index.proofs.fenwick.sums.prefix_in.Given as goal

abbrev pub invariant-loop-i : goal.invariant-loop-i
invariant-loop-i g l =
    record {
      within : l.i ≤ l.fn.k;
      value : l.total + prefix_sum g.lengths l.i ≡ prefix_sum g.lengths l.fn.k;
      fixed : g.C.Cells.cell l.cells ≡ g.C.Cells.cell l.initial.cells;
      stays : g.C.Cells.number l.cells ≡ g.C.Cells.number l.initial.cells;
      counted : g.C.Cells.asked l.cells + count_ones l.i ≡ g.C.Cells.asked l.initial.cells + count_ones l.fn.k;
    }

abbrev pub decreases-loop-i : goal.decreases-loop-i
decreases-loop-i g l = l.i
