use Rattle.indexset_uses.proofs.Sharded.{one_for_two}
use Rattle.indexset_uses.proofs.shards.split_and_merge_leave_the_list.Goals as goal

pub returns : goal.returns
returns g c = λ below above first second. one_for_two below above first second
