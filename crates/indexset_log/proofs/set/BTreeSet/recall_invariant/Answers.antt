use Rattle.std.proofs.Common.{arith, refl}
use Rattle.indexset_log.proofs.set.BTreeSet.recall_invariant.Goals as goal

pub returns-clause-tree : goal.returns-clause-tree
returns-clause-tree g c =
    let size = c.maximum_node_size.ensures in
    record {
      lawful = c.node_count.ensures.lawful;
      two = omega (arith, size.value, size.two);
      within = omega (arith, size.value, size.within);
      counted = refl;
    }
