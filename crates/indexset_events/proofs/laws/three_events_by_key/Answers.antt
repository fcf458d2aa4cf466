use Rattle.indexset_events.proofs.RemovalLemmas.{key_removal_few}
use Rattle.indexset_events.proofs.laws.three_events_by_key.Goals as goal

pub returns : goal.returns
returns g c = key_removal_few g.K.Ord.cmp
