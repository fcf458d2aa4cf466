use Rattle.std.proofs.Common.{◌≡◌, ◌+◌, ◌-◌, ◌≤◌, length, sum}
use Rattle.indexset_index.specs.Fenwick.{lowbit, prefix_sum, lengths_of}
use Rattle.indexset_index.proofs.fenwick.table.last_cell.Given as goal

abbrev pub invariant-loop-j : goal.invariant-loop-j
invariant-loop-j l =
    record {
      start_is : l.start ≡ l.end - lowbit l.end;
      low : l.start ≤ l.j;
      high : l.j ≤ length l.cells;
      value : l.total + prefix_sum (lengths_of l.cells) l.j ≡ sum (lengths_of l.cells) + l.more;
    }

abbrev pub decreases-loop-j : goal.decreases-loop-j
decreases-loop-j l = l.j - l.start
