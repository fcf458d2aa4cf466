use Rattle.indexset_events.proofs.ReplayTheorem.{without_merges_same}
use Rattle.indexset_events.proofs.laws.earlier_events_replayed.Goals as goal

pub returns : goal.returns
returns g c = without_merges_same g.T.Ord.cmp
