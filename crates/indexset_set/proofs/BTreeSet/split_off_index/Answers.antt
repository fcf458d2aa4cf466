use Rattle.indexset_core.proofs.CallerLemmas.{front_up, tail_up}
use Rattle.indexset_set.proofs.BTreeSet.split_off_index.Goals as goal

pub invariant_of-self : goal.invariant_of-self
invariant_of-self g c = rw c.in_err-spine.ensures.unchanged c.self.invariant

pub invariant_of-self-2 : goal.invariant_of-self-2
invariant_of-self-2 g c = rw c.in_ok-spine.ensures.left (front_up g.T.Ord.cmp _ _ c.self.invariant)

pub invariant_of-result : goal.invariant_of-result
invariant_of-result g c = rw c.in_ok-spine.ensures.right (tail_up g.T.Ord.cmp _ _ c.self.invariant)
