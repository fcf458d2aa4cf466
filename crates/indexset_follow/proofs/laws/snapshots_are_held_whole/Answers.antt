use Rattle.indexset_follow.proofs.Snapshots.{held_before, wrong_end}
use Rattle.indexset_follow.proofs.laws.snapshots_are_held_whole.Goals as goal

pub returns-clause-before : goal.returns-clause-before
returns-clause-before g c = held_before g.T.Ord.cmp g.T.Item.texts

pub returns-clause-wrong : goal.returns-clause-wrong
returns-clause-wrong g c = wrong_end g.T.Item.texts
