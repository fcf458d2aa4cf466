use Rattle.std.proofs.Common.{◌≡◌, ◌+◌, ◌/◌, ◌^◌, ◌≤◌}
use Rattle.indexset_core.specs.Digits.{digits}
use Rattle.indexset_index.proofs.FindLemmas.{IsAt}
use Rattle.indexset_index.proofs.fenwick.sums.find_in.Given as goal

abbrev pub invariant-loop-step : goal.invariant-loop-step
invariant-loop-step g l =
    record {
      place : IsAt g.lengths l.count l.fn.position (digits l.step) l.node l.before;
      power : l.step ≡ 2 ^ digits l.step / 2;
      fixed : g.C.Cells.cell l.cells ≡ g.C.Cells.cell l.initial.cells;
      stays : g.C.Cells.number l.cells ≡ g.C.Cells.number l.initial.cells;
      comparisons : g.C.Cells.asked l.cells + digits l.step ≤ g.C.Cells.asked l.initial.cells + digits l.count;
    }

abbrev pub decreases-loop-step : goal.decreases-loop-step
decreases-loop-step g l = l.step
