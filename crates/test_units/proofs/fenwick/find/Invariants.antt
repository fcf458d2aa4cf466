use Rattle.test_units.proofs.fenwick.find.Given as goal

abbrev pub ghost-find_in : goal.ghost-find_in
ghost-find_in a = a.cells.now.cells.0
