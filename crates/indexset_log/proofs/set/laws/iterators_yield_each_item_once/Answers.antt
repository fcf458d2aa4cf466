use Rattle.indexset_core.proofs.CallLemmas.{is_walk}
use Rattle.indexset_log.proofs.set.laws.iterators_yield_each_item_once.Goals as goal

pub returns-clause-items : goal.returns-clause-items
returns-clause-items g c = is_walk _

pub returns-clause-range : goal.returns-clause-range
returns-clause-range g c = is_walk _

pub returns-clause-nodes : goal.returns-clause-nodes
returns-clause-nodes g c = is_walk _
