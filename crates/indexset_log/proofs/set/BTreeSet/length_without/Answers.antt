use Rattle.std.proofs.Common.{arith, length, [], ap, remove}
use Rattle.std.proofs.lemmas.List.{get_or-set_same}
use Rattle.std.proofs.lemmas.List.Edits.{length-remove}
use Rattle.indexset_core.specs.Nodes.{node_at}
use Rattle.indexset_log.proofs.TreeViewLemmas.{held, node_held}
use Rattle.indexset_events.proofs.CallerLemmas.{node_some}
use Rattle.indexset_log.proofs.set.BTreeSet.length_without.Goals as goal

pub overflow_sub-result : goal.overflow_sub-result
overflow_sub-result g c =
    let t = held g.Node.NodeLike.list c.self.inside.nodes.items c.self.view_is c.self.invariant in
    let node = node_held t c.args.place c.requires.place c.index.ensures in
    omega (arith, c.len-length.ensures.value, ap (λ l. length l) node, node_some g.T.Ord.cmp c.args.self.now.size c.args.self.now.nodes t.rule.lawful c.args.place c.requires.place)

pub returns-then-place-node : goal.returns-then-place-node
returns-then-place-node g c = λ i lt.
    let ns = c.args.self.now.nodes in
    let t = held g.Node.NodeLike.list c.self.inside.nodes.items c.self.view_is c.self.invariant in
    let node = node_held t c.args.place c.requires.place c.index.ensures in
    let less = length-remove (node_at ns c.args.node) i lt in
    let same = ap (λ k. length (node_at ns k)) c.if-place-node.true in
    let here = get_or-set_same ns c.args.node (remove (node_at ns c.args.node) i) [] c.requires.node in
    rw (c.if-place-node.true, here) (omega (arith, c.len-length.ensures.value, ap (λ l. length l) node, less, same))
