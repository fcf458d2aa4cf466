use Rattle.indexset_replica.proofs.CopyLemmas.{copies_keep}
use Rattle.indexset_replica.proofs.laws.copies_keep.Goals as goal

pub returns : goal.returns
returns g c = copies_keep g.T.Ord.cmp g.T.Clone.is_clone
