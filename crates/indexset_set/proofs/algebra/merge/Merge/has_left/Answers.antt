use Rattle.std.proofs.Common.{rules}
use Rattle.indexset_set.proofs.MergeLemmas.{lefts_merged}
use Rattle.indexset_set.proofs.algebra.merge.Merge.has_left.Goals as goal

pub returns : goal.returns
returns g c = rw (← c.self.view_is, lefts_merged) (search rules)
