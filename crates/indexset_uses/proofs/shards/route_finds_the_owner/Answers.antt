use Rattle.indexset_uses.proofs.Sharded.{route_owner}
use Rattle.indexset_uses.proofs.shards.route_finds_the_owner.Goals as goal

pub returns : goal.returns
returns g c = λ borders l v total up. route_owner g.T.Ord.cmp total borders l v up
