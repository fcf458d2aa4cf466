use Rattle.indexset_set.proofs.SetAppendLemmas.{back_ascending, taken_ascending, taken_nodes, taken_put}
use Rattle.indexset_set.proofs.BTreeSet.append_above.Goals as goal

pub invariant_of-self : goal.invariant_of-self
invariant_of-self g c =
    let up = rw (← c.self.view_is, ← c.other.view_is) at c.requires.order in
    taken_ascending g.T.Ord.cmp _ _ _ _ _ c.recall_lengths.ensures.cut up c.append.ensures.moved

pub invariant_of-other : goal.invariant_of-other
invariant_of-other g c =
    let taken = c.append.ensures.moved in
    back_ascending g.T.Ord.cmp taken.0 _ (rw taken.1 at c.other.invariant)

pub returns-clause-moved : goal.returns-clause-moved
returns-clause-moved g c =
    let up = rw (← c.self.view_is, ← c.other.view_is) at c.requires.order in
    rw (← c.self.view_is, ← c.other.view_is) (taken_put g.T.Ord.cmp _ _ _ _ _ c.recall_lengths.ensures.cut up c.append.ensures.moved)

pub returns-clause-nodes : goal.returns-clause-nodes
returns-clause-nodes g c =
    let up = rw (← c.self.view_is, ← c.other.view_is) at c.requires.order in
    rw (← c.self.view_is, ← c.other.view_is) (taken_nodes g.T.Ord.cmp _ _ _ _ _ c.recall_lengths.ensures.cut up c.append.ensures.moved)
