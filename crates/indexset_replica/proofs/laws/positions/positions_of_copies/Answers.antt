use Rattle.indexset_replica.proofs.CopyPositionLemmas.{index_copied, rank_copied}
use Rattle.indexset_replica.proofs.laws.positions.positions_of_copies.Goals as goal

pub returns-clause-rank : goal.returns-clause-rank
returns-clause-rank g c = λ ns ms k copies. rank_copied g.T.Ord.cmp g.met.T.Ord.total g.Q.LookupKey.order g.met.Q.LookupKey.acts_as_key.alike k g.T.Clone.is_clone ns ms copies

pub returns-clause-index : goal.returns-clause-index
returns-clause-index g c = λ ns ms k copies. index_copied g.T.Ord.cmp g.met.T.Ord.total g.Q.LookupKey.order g.met.Q.LookupKey.acts_as_key.alike k g.T.Clone.is_clone ns ms copies
