use Rattle.indexset_replica.proofs.CopyLemmas.{step_copies}
use Rattle.indexset_replica.proofs.laws.step_of_clones.Goals as goal

pub returns : goal.returns
returns g c = step_copies g.T.Ord.cmp g.T.Clone.is_clone g.met.T.Ord.total
