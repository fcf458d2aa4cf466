use Rattle.indexset_replica.proofs.CopyLemmas.{replay_copies}
use Rattle.indexset_replica.proofs.ClonedReplayLemmas.{replay_clones}
use Rattle.indexset_replica.proofs.laws.replay_of_clones.Goals as goal

pub returns-clause-equal : goal.returns-clause-equal
returns-clause-equal g c = λ equal. replay_clones g.T.Ord.cmp g.met.T.Ord.total g.T.Clone.is_clone _ (λ x y e. e) equal

pub returns-clause-copies : goal.returns-clause-copies
returns-clause-copies g c = replay_copies g.T.Ord.cmp g.T.Clone.is_clone g.met.T.Ord.total
