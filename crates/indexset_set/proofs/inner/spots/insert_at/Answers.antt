use Rattle.indexset_core.proofs.CallerLemmas.{gap_ascending}
use Rattle.indexset_set.proofs.inner.spots.insert_at.Goals as goal

pub invariant_of-set-2 : goal.invariant_of-set-2
invariant_of-set-2 g c =
    rw c.in_ok-to.ensures.items (gap_ascending _ _ _ _ g.met.T.Ord.total (rw c.set.view_is c.requires.gap) c.set.invariant)
