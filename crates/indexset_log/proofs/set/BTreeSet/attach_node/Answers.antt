use Rattle.std.proofs.Common.{arith}
use Rattle.indexset_events.proofs.CallerLemmas.{attach_index_le, lawful_ascends}
use Rattle.indexset_log.proofs.TreeViewLemmas.{attached_tree, held}
use Rattle.indexset_log.proofs.set.BTreeSet.attach_node.Goals as goal

pub insert_node-requires-clause-place : goal.insert_node-requires-clause-place
insert_node-requires-clause-place g c =
    let t = held g.Node.NodeLike.list c.self.inside.nodes.items c.self.view_is c.self.invariant in
    omega (arith, t.many, c.in-Ok.ensures.place, attach_index_le g.T.Ord.cmp c.args.self.now.nodes (g.Node.NodeLike.list c.args.node))

pub returns-clause-nodes : goal.returns-clause-nodes
returns-clause-nodes g c =
    let t = held g.Node.NodeLike.list c.self.inside.nodes.items c.self.view_is c.self.invariant in
    rw (t.same, c.in-Ok.ensures.place) at c.in_ok-insert_node.ensures.nodes

pub invariant_of-self : goal.invariant_of-self
invariant_of-self g c = record { tree = rw c.in_err-insert_node.ensures.unchanged c.self.invariant.tree; index_is = c.insert_node.ensures.index }

pub invariant_of-self-2 : goal.invariant_of-self-2
invariant_of-self-2 g c =
    let t = held g.Node.NodeLike.list c.self.inside.nodes.items c.self.view_is c.self.invariant in
    let tree = attached_tree g.T.Ord.cmp g.met.T.Ord.total c.args.self.now.size c.args.self.now.nodes (g.Node.NodeLike.list c.args.node) t.rule c.in-Ok.ensures.good in
    record { tree = rw (returns-clause-nodes g c, t.sized, c.len-count.ensures.value) tree; index_is = c.insert_node.ensures.index }

pub returns-clause-ascending : goal.returns-clause-ascending
returns-clause-ascending g c =
    let t = held g.Node.NodeLike.list c.self.inside.nodes.items c.self.view_is c.self.invariant in
    let made = attached_tree g.T.Ord.cmp g.met.T.Ord.total c.args.self.now.size c.args.self.now.nodes (g.Node.NodeLike.list c.args.node) t.rule c.in-Ok.ensures.good in
    rw (returns-clause-nodes g c) (lawful_ascends g.T.Ord.cmp c.args.self.now.size _ made.lawful)

pub returns-clause-count : goal.returns-clause-count
returns-clause-count g c =
    let t = held g.Node.NodeLike.list c.self.inside.nodes.items c.self.view_is c.self.invariant in
    let made = attached_tree g.T.Ord.cmp g.met.T.Ord.total c.args.self.now.size c.args.self.now.nodes (g.Node.NodeLike.list c.args.node) t.rule c.in-Ok.ensures.good in
    rw (returns-clause-nodes g c) (omega (arith, made.counted, t.rule.counted))
