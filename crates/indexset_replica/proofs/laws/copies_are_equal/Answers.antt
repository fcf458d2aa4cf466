use Rattle.indexset_replica.proofs.CopyLemmas.{copies_again, copies_equal, copies_itself}
use Rattle.indexset_replica.proofs.laws.copies_are_equal.Goals as goal

pub returns-clause-itself : goal.returns-clause-itself
returns-clause-itself g c = copies_itself g.T.Ord.cmp g.T.Clone.is_clone

pub returns-clause-again : goal.returns-clause-again
returns-clause-again g c = copies_again g.T.Ord.cmp g.T.Clone.is_clone

pub returns-clause-equal : goal.returns-clause-equal
returns-clause-equal g c = copies_equal g.T.Ord.cmp g.T.Clone.is_clone g.met.T.Ord.total
