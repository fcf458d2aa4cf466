use Rattle.indexset_uses.proofs.Sharded.{parts_joined}
use Rattle.indexset_uses.proofs.shards.shards_are_one_list.Goals as goal

pub returns : goal.returns
returns g c = λ borders l total up. parts_joined g.T.Ord.cmp total borders l up
