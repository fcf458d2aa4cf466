use Rattle.indexset_core.proofs.CallLemmas.{is_walk}
use Rattle.indexset_set.proofs.laws.walks.owning_iterators_yield_each_element_once.Goals as goal

pub returns : goal.returns
returns g c = is_walk _
