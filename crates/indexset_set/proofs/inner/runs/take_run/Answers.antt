use Rattle.indexset_spine.specs.NodeList.{with_all_last, with_last}
use Rattle.indexset_spine.proofs.CallerLemmas.{takes_rest}
use Rattle.indexset_set.proofs.SetAppendLemmas.{taken_ascending}
use Rattle.indexset_set.proofs.inner.runs.take_run.Goals as goal

pub invariant_of-set : goal.invariant_of-set
invariant_of-set g c =
    let up = rw (← c.set.view_is) at c.requires.order in
    taken_ascending g.T.Ord.cmp _ _ _ _ _ c.recall_lengths.ensures.cut up c.append_items.ensures.moved

pub returns-clause-nodes : goal.returns-clause-nodes
unfolding with_all_last
returns-clause-nodes g c = rw (← c.set.view_is) (takes_rest (with_last c.set.inside.spine.size) _ _ _ _ c.append_items.ensures.moved)
