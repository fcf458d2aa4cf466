use Rattle.std.proofs.lemmas.Option.{slice_get_within}
use Rattle.indexset_core.proofs.CallerLemmas.{remove_ascending}
use Rattle.indexset_set.proofs.BTreeSet.pop_first.Goals as goal

pub invariant_of-self : goal.invariant_of-self
invariant_of-self g c = rw c.remove.ensures.items (remove_ascending g.T.Ord.cmp _ _ (slice_get_within _ _ _ c.remove.ensures.value) c.self.invariant)
