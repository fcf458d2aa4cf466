use Rattle.indexset_core.proofs.CallLemmas.{is_walk}
use Rattle.indexset_replica.proofs.laws.iterators_yield_each_item_once.Goals as goal

pub returns : goal.returns
returns g c = is_walk _
