use Rattle.indexset_events.proofs.DenseLemmas.{few_nodes}
use Rattle.indexset_events.proofs.laws.node_bound_if_dense.Goals as goal

pub returns : goal.returns
returns g c = few_nodes
