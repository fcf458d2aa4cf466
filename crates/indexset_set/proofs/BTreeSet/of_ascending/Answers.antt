use Rattle.std.proofs.Common.{subst, sym, arith}
use Rattle.indexset_core.specs.Order.{IsAscending}
use Rattle.indexset_set.proofs.SetAppendLemmas.{blocks_items, blocks_nodes}
use Rattle.indexset_set.proofs.BTreeSet.of_ascending.Goals as goal

pub invariant_of-result : goal.invariant_of-result
invariant_of-result g c =
    let cmp = g.T.Ord.cmp in
    subst (IsAscending cmp) (sym (blocks_items cmp 1024 (omega arith) c.args.values.items c.in_ok-spine.spine.nodes c.in_ok-spine.ensures.nodes)) c.requires.order

pub returns-clause-elements : goal.returns-clause-elements
returns-clause-elements g c = blocks_items g.T.Ord.cmp 1024 (omega arith) c.args.values.items c.in_ok-spine.spine.nodes c.in_ok-spine.ensures.nodes

pub returns-clause-nodes : goal.returns-clause-nodes
returns-clause-nodes g c = blocks_nodes g.T.Ord.cmp 1024 (omega arith) c.args.values.items c.in_ok-spine.spine.nodes c.in_ok-spine.ensures.nodes c.requires.order
