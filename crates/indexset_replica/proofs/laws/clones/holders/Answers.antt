use Rattle.indexset_replica.proofs.EqualCloneLemmas.{lists_equal}
use Rattle.indexset_replica.proofs.laws.clones.holders.Goals as goal

pub returns-clause-vec : goal.returns-clause-vec
returns-clause-vec g c = λ equal x y h. lists_equal g.T.Ord.cmp g.T.Clone.is_clone equal x.items y.items h.0
