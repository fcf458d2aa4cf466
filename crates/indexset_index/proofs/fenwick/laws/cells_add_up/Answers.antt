use Rattle.indexset_index.proofs.PrefixLemmas.{prefix-cell}
use Rattle.indexset_index.proofs.fenwick.laws.cells_add_up.Goals as goal

pub returns : goal.returns
returns c = prefix-cell
