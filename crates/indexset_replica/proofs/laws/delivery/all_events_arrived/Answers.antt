use Rattle.indexset_replica.proofs.PrefixLemmas.{all_after, all_held, copied_all, copied_held}
use Rattle.indexset_replica.proofs.laws.delivery.all_events_arrived.Goals as goal

pub returns-clause-all : goal.returns-clause-all
returns-clause-all g c = λ s ns log arriving old new feed at of came made.
    all_after g.T.Ord.cmp s ns log feed arriving old new of at came made

pub returns-clause-copies : goal.returns-clause-copies
returns-clause-copies g c = λ s ns log arriving old new feed at of came made.
    copied_all g.T.Ord.cmp s ns log feed g.met.T.Ord.total g.T.Clone.is_clone arriving old new of at came made

pub returns-clause-by_number : goal.returns-clause-by_number
returns-clause-by_number g c = all_held g.T.Ord.cmp

pub returns-clause-copies_by_number : goal.returns-clause-copies_by_number
returns-clause-copies_by_number g c = λ s ns log r at end. copied_held g.T.Ord.cmp s ns log g.T.Clone.is_clone r at end
