use Rattle.indexset_core.proofs.CallerLemmas.{remove_ascending}
use Rattle.indexset_spine.proofs.CallerLemmas.{position_inside}
use Rattle.indexset_set.proofs.inner.spots.remove_at.Goals as goal

pub invariant_of-set : goal.invariant_of-set
invariant_of-set g c =
    rw c.remove.ensures.items (remove_ascending g.T.Ord.cmp _ _ (position_inside _ c.args.spot (rw c.set.view_is c.requires)) c.set.invariant)
