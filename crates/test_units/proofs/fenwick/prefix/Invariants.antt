use Rattle.test_units.proofs.fenwick.prefix.Given as goal

abbrev pub ghost-prefix_in : goal.ghost-prefix_in
ghost-prefix_in a = a.cells.now.cells.0
