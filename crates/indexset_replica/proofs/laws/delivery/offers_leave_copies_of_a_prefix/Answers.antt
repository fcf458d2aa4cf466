use Rattle.indexset_replica.proofs.CopyDeliveryLemmas.{alike_offered}
use Rattle.indexset_replica.proofs.PrefixLemmas.{copied_prefix, memory_alone}
use Rattle.indexset_replica.proofs.laws.delivery.offers_leave_copies_of_a_prefix.Goals as goal

pub returns-clause-alike : goal.returns-clause-alike
returns-clause-alike g c = λ s ns log arriving source old new feed at of like made.
    alike_offered g.T.Ord.cmp g.met.T.Ord.total g.T.Clone.is_clone s ns log feed arriving source old new of at like made

pub returns-clause-prefix : goal.returns-clause-prefix
returns-clause-prefix g c = λ s ns log arriving old new feed at of made.
    copied_prefix g.T.Ord.cmp s ns log feed g.met.T.Ord.total g.T.Clone.is_clone arriving old new of at made

pub returns-clause-memory : goal.returns-clause-memory
returns-clause-memory g c = λ s ns log old event cause feed at of failed.
    memory_alone g.T.Ord.cmp s ns log feed g.met.T.Ord.total g.T.Clone.is_clone old event cause at of failed
