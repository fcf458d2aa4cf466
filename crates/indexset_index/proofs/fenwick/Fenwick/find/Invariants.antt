use Rattle.indexset_index.proofs.fenwick.Fenwick.find.Given as goal

abbrev pub ghost-find_in : goal.ghost-find_in
ghost-find_in a = a.cells.now.0
