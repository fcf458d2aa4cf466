use Rattle.indexset_spine.specs.NodeList.{position_of}
use Rattle.indexset_set.proofs.SetValueLemmas.{nodes_ascending}
use Rattle.indexset_set.proofs.inner.values.value_in.Goals as goal

pub invariant_of-set-lent : goal.invariant_of-set-lent
invariant_of-set-lent g c = λ w.
    nodes_ascending g.K.Ord.cmp c.set.inside.spine (position_of c.set.inside.spine.nodes c.args.spot) c.item_mut-pair.result.now w c.item_mut-pair.ensures.value c.set.invariant
