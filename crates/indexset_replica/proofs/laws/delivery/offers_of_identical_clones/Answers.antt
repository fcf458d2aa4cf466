use Rattle.indexset_replica.proofs.CloneLemmas.{offered_same}
use Rattle.indexset_replica.proofs.laws.delivery.offers_of_identical_clones.Goals as goal

pub returns : goal.returns
returns g c = λ same old new arriving made. offered_same g.T.Ord.cmp g.T.Clone.is_clone same old new arriving made
