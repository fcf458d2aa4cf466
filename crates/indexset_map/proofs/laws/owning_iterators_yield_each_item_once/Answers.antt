use Rattle.indexset_core.proofs.CallLemmas.{is_walk}
use Rattle.indexset_map.proofs.laws.owning_iterators_yield_each_item_once.Goals as goal

pub returns-clause-pairs : goal.returns-clause-pairs
returns-clause-pairs g c = is_walk _

pub returns-clause-keys : goal.returns-clause-keys
returns-clause-keys g c = is_walk _

pub returns-clause-values : goal.returns-clause-values
returns-clause-values g c = is_walk _
