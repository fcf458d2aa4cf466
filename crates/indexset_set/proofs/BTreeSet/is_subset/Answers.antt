use Rattle.std.specs.Map.Iter.{deref}
use Rattle.indexset_set.proofs.SetAlgebraLemmas.{subset_told}
use Rattle.indexset_set.proofs.BTreeSet.is_subset.Goals as goal

pub returns : goal.returns
returns g c = subset_told g.T.Ord.cmp deref _ _ _ _ c.next.result c.is_none.result c.difference.ensures.rest c.next.ensures.steps c.is_none.ensures
