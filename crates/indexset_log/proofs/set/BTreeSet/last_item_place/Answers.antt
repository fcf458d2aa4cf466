use Rattle.std.proofs.Common.{◌≡◌, ◌+◌, ◌-◌, ◌≤◌, length, ap, ◌∙◌, arith}
use Rattle.std.proofs.lemmas.Grind.{common_steps}
use Rattle.indexset_core.specs.Nodes.{node_at}
use Rattle.indexset_log.proofs.EndRemovalLemmas.{last_there}
use Rattle.indexset_log.proofs.TreeViewLemmas.{held, node_held}
use Rattle.indexset_events.proofs.CallerLemmas.{node_some}
use Rattle.indexset_log.proofs.set.BTreeSet.last_item_place.Given.{Over}
use Rattle.indexset_log.proofs.set.BTreeSet.last_item_place.Goals as goal
use Rattle.indexset_log.proofs.set.BTreeSet.last_item_place.Goals.{After-len}

-- the last node exists, and has as many items as the code reads
last_node : (g : Over) (c : After-len g)
    → (c.len-last.result - 1 + 1 ≡ length c.args.self.now.nodes)
    × (c.len.result ≡ length (node_at c.args.self.now.nodes (c.len-last.result - 1))) × (1 ≤ c.len.result)
last_node g c =
    let t = held g.Node.NodeLike.list c.self.inside.nodes.items c.self.view_is c.self.invariant in
    let some : 1 ≤ length c.self.inside.nodes.items = grind (arith, common_steps) in
    let many : c.len-last.result - 1 + 1 ≡ length c.args.self.now.nodes = omega (arith, t.many, some) in
    let node = node_held t (c.len-last.result - 1) (omega (arith, many)) c.index.ensures in
    let long : c.len.result ≡ length (node_at c.args.self.now.nodes (c.len-last.result - 1)) = c.len.ensures.value ∙ ap (λ l. length l) node in
    (many, long, omega (arith, long, node_some g.T.Ord.cmp c.args.self.now.size c.args.self.now.nodes t.rule.lawful (c.len-last.result - 1) (omega (arith, many))))

pub overflow_sub-result : goal.overflow_sub-result
overflow_sub-result g c = (last_node g c).2

pub returns-clause-place : goal.returns-clause-place
returns-clause-place g c =
    let l = last_node g c in
    last_there c.args.self.now.nodes _ _ l.0 (omega (arith, l.1, l.2))
