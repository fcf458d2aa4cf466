use Rattle.std.proofs.Common.{ap, arith}
use Rattle.indexset_log.proofs.ChangeLemmas.{lone_after}
use Rattle.indexset_events.proofs.CallerLemmas.{some_joined}
use Rattle.indexset_log.proofs.TreeViewLemmas.{held, taken_tree}
use Rattle.indexset_log.proofs.set.BTreeSet.remove_item.Goals as goal

pub overflow_sub-self : goal.overflow_sub-self
overflow_sub-self g c =
    let t = held g.Node.NodeLike.list c.self.inside.nodes.items c.self.view_is c.self.invariant in
    omega (arith, t.rule.counted, some_joined c.args.self.now.nodes c.args.node c.args.offset c.requires.node c.requires.offset)

pub remove_item-requires-clause-node : goal.remove_item-requires-clause-node
remove_item-requires-clause-node g c =
    let t = held g.Node.NodeLike.list c.self.inside.nodes.items c.self.view_is c.self.invariant in
    omega (arith, t.many, c.requires.node)

pub remove_item-requires-clause-offset : goal.remove_item-requires-clause-offset
remove_item-requires-clause-offset g c =
    let t = held g.Node.NodeLike.list c.self.inside.nodes.items c.self.view_is c.self.invariant in
    rw t.same c.requires.offset

pub returns-clause-tree : goal.returns-clause-tree
returns-clause-tree g c =
    let t = held g.Node.NodeLike.list c.self.inside.nodes.items c.self.view_is c.self.invariant in
    lone_after c.args.self.now c.args.node c.args.offset c.requires.join (rw t.same at c.remove_item.ensures.nodes) t.sized (omega (arith, t.numbered))

pub returns-clause-item : goal.returns-clause-item
returns-clause-item g c =
    let t = held g.Node.NodeLike.list c.self.inside.nodes.items c.self.view_is c.self.invariant in
    rw t.same at c.remove_item.ensures.item

pub invariant_of-self : goal.invariant_of-self
invariant_of-self g c =
    let t = held g.Node.NodeLike.list c.self.inside.nodes.items c.self.view_is c.self.invariant in
    record {
      tree = rw (ap (λ t. t.nodes) (returns-clause-tree g c), t.sized) (taken_tree g.met.T.Ord.total t.rule.lawful c.args.node c.args.offset c.requires.node (returns-clause-item g c) t.rule);
      index_is = c.remove_item.ensures.index;
    }
