use Rattle.std.proofs.Common.{◌++◌, take}
use Rattle.sqlite_trees.specs.View.{IsClean, IsQuiet}
use Rattle.indexset_journal.specs.Kept.{texts, rows_of}
use Rattle.indexset_journal.specs.State.{Stages}
use Rattle.indexset_journal.proofs.write.put_lines.Given as goal

abbrev pub invariant-loop-at : goal.invariant-loop-at
invariant-loop-at g l = record {
  quiet : IsQuiet g.S.Store.view g.S.Store.faults g.S.Store.recovers g.S.Store.is_shielded l.fn.store l.store;
  stages : IsClean (g.S.Store.view l.store)
      → Stages (g.S.Store.view l.fn.store) (g.S.Store.view l.store) ((g.S.Store.view l.fn.store).trees 0 ++ rows_of l.next (texts (take l.at l.lines)));
}
