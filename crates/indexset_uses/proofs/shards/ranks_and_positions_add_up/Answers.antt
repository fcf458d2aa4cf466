use Rattle.indexset_core.proofs.CallerLemmas.{get_in_node}
use Rattle.indexset_uses.proofs.Sharded.{owner_rank}
use Rattle.indexset_uses.proofs.shards.ranks_and_positions_add_up.Goals as goal

pub returns-clause-rank : goal.returns-clause-rank
returns-clause-rank g c = λ shards k v owner. owner_rank g.T.Ord.cmp shards k v owner

pub returns-clause-position : goal.returns-clause-position
returns-clause-position g c = λ shards k i inside within. get_in_node shards k i inside within
