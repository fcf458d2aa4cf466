use Rattle.indexset_index.proofs.fenwick.Fenwick.prefix.Given as goal

abbrev pub ghost-prefix_in : goal.ghost-prefix_in
ghost-prefix_in a = a.cells.now.0
