use Rattle.indexset_replica.proofs.OfferLemmas.{offered-fold, offered_one, offered_parts}
use Rattle.indexset_replica.proofs.laws.delivery.follow_is_a_fold_of_offers.Goals as goal

pub returns-clause-fold : goal.returns-clause-fold
returns-clause-fold g c = offered-fold g.T.Ord.cmp

pub returns-clause-one : goal.returns-clause-one
returns-clause-one g c = offered_one g.T.Ord.cmp g.T.Clone.is_clone

pub returns-clause-parts : goal.returns-clause-parts
returns-clause-parts g c = offered_parts g.T.Ord.cmp g.T.Clone.is_clone
