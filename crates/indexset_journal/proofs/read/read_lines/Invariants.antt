use Rattle.std.proofs.Common.{◌≤◌, ◌^◌, IsSome}
use Rattle.sqlite_trees.specs.View.{IsClean, IsQuiet}
use Rattle.indexset_journal.specs.Kept.{texts}
use Rattle.indexset_journal.proofs.Scans.{IsReadUpTo}
use Rattle.indexset_journal.proofs.read.read_lines.Given as goal

abbrev pub invariant-rows : goal.invariant-rows
invariant-rows g l = record {
  live : IsSome ((g.S.Store.view l.store).cursors 0);
  quiet : IsQuiet g.S.Store.view g.S.Store.faults g.S.Store.recovers g.S.Store.is_shielded l.fn.store l.store;
  small : l.next ≤ 2 ^ 63;
  read : IsClean (g.S.Store.view l.store) → IsReadUpTo (g.S.Store.view l.fn.store) (g.S.Store.view l.store) (texts l.lines.items) l.next;
}
