use Rattle.std.proofs.lemmas.Option.{slice_get_within}
use Rattle.indexset_set.proofs.SetEndLemmas.{last_parted}
use Rattle.indexset_core.proofs.CallerLemmas.{remove_ascending}
use Rattle.indexset_set.proofs.BTreeSet.pop_last.Goals as goal

pub invariant_of-self : goal.invariant_of-self
invariant_of-self g c = rw c.remove.ensures.items (remove_ascending g.T.Ord.cmp _ _ (slice_get_within _ _ _ c.remove.ensures.value) c.self.invariant)

pub returns-clause-whole : goal.returns-clause-whole
returns-clause-whole g c =
    rw (← c.self.view_is, c.remove.ensures.items) (last_parted _ _ c.remove.result c.remove.ensures.value c.in_ok-spot.ensures.1)
