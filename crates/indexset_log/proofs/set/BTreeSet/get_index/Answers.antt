use Rattle.std.proofs.Common.{slice_get, ap, sym, ◌∙◌}
use Rattle.indexset_core.specs.Nodes.{concat}
use Rattle.indexset_core.proofs.CallerLemmas.{get_in_node}
use Rattle.indexset_log.proofs.TreeViewLemmas.{held, node_held}
use Rattle.indexset_log.proofs.set.BTreeSet.get_index.Goals as goal

pub returns : goal.returns
returns g c =
    let t = held g.Node.NodeLike.list c.self.inside.nodes.items c.self.view_is c.self.invariant in
    let ns = c.args.self.now.nodes in
    let at = c.in_ok-node.ensures in
    c.get_ith.ensures
    ∙ (ap (λ l. slice_get l c.in_ok-node.offset) (node_held t c.in_ok-node.node at.0 c.index.ensures)
    ∙ (sym (get_in_node ns c.in_ok-node.node c.in_ok-node.offset at.0 at.1) ∙ ap (slice_get (concat ns)) at.2))
