use Rattle.indexset_keep.proofs.Starts.{snapshot_on}
use Rattle.indexset_keep.proofs.laws.snapshots_lead_there.Goals as goal

pub returns : goal.returns
returns g c r sound few = snapshot_on g.T.Ord.cmp g.T.Item.texts g.met.T.Token.tokens r sound few
