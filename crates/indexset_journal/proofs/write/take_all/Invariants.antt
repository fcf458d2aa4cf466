use Rattle.sqlite_trees.specs.View.{IsClean, IsQuiet, OnlyWrites}
use Rattle.indexset_journal.proofs.write.take_all.Given as goal

abbrev pub invariant-rows : goal.invariant-rows
invariant-rows g l = record {
  quiet : IsQuiet g.S.Store.view g.S.Store.faults g.S.Store.recovers g.S.Store.is_shielded l.fn.store l.store;
  writes : IsClean (g.S.Store.view l.store) → OnlyWrites (g.S.Store.view l.fn.store) (g.S.Store.view l.store);
}
