use Rattle.indexset_index.proofs.CellLemmas.{told}
use Rattle.indexset_index.proofs.fenwick.laws.cells_determine_lengths.Goals as goal

pub returns : goal.returns
returns c = told
