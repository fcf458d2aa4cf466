use Rattle.std.proofs.Common.{rules, ◌≡◌, Some, slice_get}
use Rattle.indexset_spine.specs.NodeList.{items}
use Rattle.indexset_set.proofs.SetValueLemmas.{nodes_ascending}
use Rattle.indexset_set.proofs.pairs.BTreeSet+Pair+K+V.value_at_mut.Goals as goal

pub invariant_of-self-lent : goal.invariant_of-self-lent
invariant_of-self-lent g c = λ w.
    let at : slice_get (items c.self.inside.spine) c.args.i ≡ Some c.unwrap-pair.result.now = search rules in
    nodes_ascending g.K.Ord.cmp c.self.inside.spine c.args.i c.unwrap-pair.result.now w at c.self.invariant
