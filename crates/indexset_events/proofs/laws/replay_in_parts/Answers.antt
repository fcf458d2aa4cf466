use Rattle.indexset_events.proofs.ReplayTheorem.{replay-append}
use Rattle.indexset_events.proofs.laws.replay_in_parts.Goals as goal

pub returns : goal.returns
returns g c = replay-append g.T.Ord.cmp
