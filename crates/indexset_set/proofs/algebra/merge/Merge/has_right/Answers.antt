use Rattle.std.proofs.Common.{rules}
use Rattle.indexset_set.proofs.MergeLemmas.{rights_merged}
use Rattle.indexset_set.proofs.algebra.merge.Merge.has_right.Goals as goal

pub returns : goal.returns
returns g c = rw (← c.self.view_is, rights_merged) (search rules)
