use Rattle.std.proofs.Common.{arith}
use Rattle.indexset_log.proofs.TreeViewLemmas.{held}
use Rattle.indexset_events.proofs.CallerLemmas.{nodes_at_most, lawful_filled}
use Rattle.indexset_log.proofs.set.BTreeSet.node_count.Goals as goal

pub returns-clause-node_bound : goal.returns-clause-node_bound
returns-clause-node_bound g c =
    let t = held g.Node.NodeLike.list c.self.inside.nodes.items c.self.view_is c.self.invariant in
    omega (arith, c.len.ensures, nodes_at_most c.args.self.now.nodes (lawful_filled g.T.Ord.cmp c.args.self.now.size c.args.self.now.nodes t.rule.lawful))
