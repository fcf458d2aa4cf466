use Rattle.std.proofs.Common.{◌+◌, ◌-◌, length, get_or}
use Rattle.indexset_index.specs.Fenwick.{lengths_of}
use Rattle.indexset_index.proofs.CellLemmas.{IsChanged}
use Rattle.indexset_index.proofs.fenwick.table.raise.Given as goal

abbrev pub invariant-loop-j : goal.invariant-loop-j
invariant-loop-j l =
    let lengths = lengths_of l.initial.cells in
    IsChanged lengths l.fn.i (get_or lengths l.fn.i 0 + l.n) l.cells l.j

abbrev pub decreases-loop-j : goal.decreases-loop-j
decreases-loop-j l = length l.initial.cells + 1 - l.j
