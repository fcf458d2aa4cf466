use Rattle.std.proofs.Common.{ap, arith}
use Rattle.indexset_core.specs.Nodes.{node_at}
use Rattle.indexset_log.proofs.ChangeLemmas.{joined_after}
use Rattle.indexset_events.proofs.CallerLemmas.{after_from, few_before, join_up, some_joined, some_read}
use Rattle.indexset_log.proofs.TreeViewLemmas.{held, taken_tree}
use Rattle.indexset_log.proofs.set.BTreeSet.take_joining.Goals as goal

pub remove_and_merge-requires-clause-most : goal.remove_and_merge-requires-clause-most
remove_and_merge-requires-clause-most g c =
    let t = held g.Node.NodeLike.list c.self.inside.nodes.items c.self.view_is c.self.invariant in
    let after = after_from c.args.self.now.size c.args.self.now.nodes c.args.node c.args.offset c.args.left c.requires.join in
    rw t.same (omega (arith, few_before c.args.self.now.size c.args.self.now.nodes c.args.node c.args.offset c.args.left c.requires.offset after t.rule.two, t.rule.within))

pub remove_and_merge-requires-clause-order : goal.remove_and_merge-requires-clause-order
remove_and_merge-requires-clause-order g c =
    let t = held g.Node.NodeLike.list c.self.inside.nodes.items c.self.view_is c.self.invariant in
    let after = after_from c.args.self.now.size c.args.self.now.nodes c.args.node c.args.offset c.args.left c.requires.join in
    let x = some_read (node_at c.args.self.now.nodes c.args.node) c.args.offset c.requires.offset in
    rw t.same (join_up g.met.T.Ord.total t.rule.lawful c.args.node c.args.offset c.requires.node x.1 after)

pub overflow_sub-self : goal.overflow_sub-self
overflow_sub-self g c =
    let t = held g.Node.NodeLike.list c.self.inside.nodes.items c.self.view_is c.self.invariant in
    omega (arith, t.rule.counted, some_joined c.args.self.now.nodes c.args.node c.args.offset c.requires.node c.requires.offset)

pub returns-clause-tree : goal.returns-clause-tree
returns-clause-tree g c =
    let t = held g.Node.NodeLike.list c.self.inside.nodes.items c.self.view_is c.self.invariant in
    let after = after_from c.args.self.now.size c.args.self.now.nodes c.args.node c.args.offset c.args.left c.requires.join in
    joined_after c.args.self.now c.args.node c.args.offset c.requires.join (rw (t.same, ← after.without) at c.in_ok-item.ensures.nodes) t.sized (omega (arith, t.numbered))

pub invariant_of-self-2 : goal.invariant_of-self-2
invariant_of-self-2 g c =
    let t = held g.Node.NodeLike.list c.self.inside.nodes.items c.self.view_is c.self.invariant in
    let x = some_read (node_at c.args.self.now.nodes c.args.node) c.args.offset c.requires.offset in
    let tree = taken_tree g.met.T.Ord.total t.rule.lawful c.args.node c.args.offset c.requires.node x.1 t.rule in
    record { tree = rw (ap (λ t. t.nodes) (returns-clause-tree g c), t.sized) tree; index_is = c.remove_and_merge.ensures.index }
