use Rattle.indexset_core.proofs.CallLemmas.{is_walk}
use Rattle.indexset_multi.proofs.laws.iterators_yield_each_pair_once.Goals as goal

pub returns-clause-pairs : goal.returns-clause-pairs
returns-clause-pairs g c = is_walk _

pub returns-clause-range : goal.returns-clause-range
returns-clause-range g c = is_walk _

pub returns-clause-raw_range : goal.returns-clause-raw_range
returns-clause-raw_range g c = is_walk _
