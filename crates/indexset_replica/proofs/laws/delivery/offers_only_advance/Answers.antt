use Rattle.indexset_replica.proofs.PrefixLemmas.{next_grows}
use Rattle.indexset_replica.proofs.laws.delivery.offers_only_advance.Goals as goal

pub returns : goal.returns
returns g c = λ old new arriving made. next_grows g.T.Ord.cmp g.T.Clone.is_clone old new arriving made
