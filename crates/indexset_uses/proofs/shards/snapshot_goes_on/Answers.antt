use Rattle.indexset_uses.proofs.Sharded.{in_parts}
use Rattle.indexset_uses.proofs.shards.snapshot_goes_on.Goals as goal

pub returns : goal.returns
returns g c = λ l first rest. in_parts g.T.Ord.cmp l first rest
