use Rattle.indexset_uses.proofs.Sharded.{owner_cut, owner_put}
use Rattle.indexset_uses.proofs.shards.owner_changes_the_list.Goals as goal

pub returns-clause-put : goal.returns-clause-put
returns-clause-put g c = λ shards k v owner. owner_put g.T.Ord.cmp shards k v owner

pub returns-clause-cut : goal.returns-clause-cut
returns-clause-cut g c = λ shards k v owner. owner_cut g.T.Ord.cmp shards k v owner
