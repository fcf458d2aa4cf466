use Rattle.indexset_replica.proofs.OfferLemmas.{leaves_a_prefix}
use Rattle.indexset_replica.proofs.laws.delivery.offers_leave_a_prefix.Goals as goal

pub returns : goal.returns
returns g c = λ s ns log arriving old feed at of. leaves_a_prefix g.T.Ord.cmp s ns log feed arriving old at of
