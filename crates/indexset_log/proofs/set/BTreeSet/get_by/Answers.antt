use Rattle.std.proofs.Common.{ap, ◌∙◌, sym, slice_get}
use Rattle.indexset_events.proofs.CallerLemmas.{lawful_filled}
use Rattle.indexset_log.proofs.TreeViewLemmas.{held, node_held}
use Rattle.indexset_log.proofs.set.BTreeSet.get_by.Goals as goal
use Rattle.indexset_core.proofs.CallerLemmas.{end_found, end_node, gap_found}

pub returns-in-Ok-clause-value : goal.returns-in-Ok-clause-value
returns-in-Ok-clause-value g c =
    let t = held g.Node.NodeLike.list c.self.inside.nodes.items c.self.view_is c.self.invariant in
    let answer = g.P.Probe.answer c.args.probe.now in
    let filled = lawful_filled g.T.Ord.cmp c.args.self.now.size c.args.self.now.nodes t.rule.lawful in
    let inside = end_node answer c.args.self.now.nodes filled c.requires c.locate_by.result c.locate_by.ensures.place (c.in-Ok.node, c.in-Ok.offset) c.in-Ok.is in
    c.get_ith.ensures
    ∙ (ap (λ l. slice_get l c.in-Ok.offset) (node_held t c.in-Ok.node inside c.index.ensures)
    ∙ sym
    (end_found answer c.args.self.now.nodes filled c.requires c.locate_by.result c.locate_by.ensures.place
    (c.in-Ok.node, c.in-Ok.offset) c.in-Ok.is))

pub returns-in-Err-clause-value : goal.returns-in-Err-clause-value
returns-in-Err-clause-value g c =
    let t = held g.Node.NodeLike.list c.self.inside.nodes.items c.self.view_is c.self.invariant in
    sym
    (gap_found (g.P.Probe.answer c.args.probe.now) c.args.self.now.nodes
    (lawful_filled g.T.Ord.cmp c.args.self.now.size c.args.self.now.nodes t.rule.lawful) c.requires
    c.locate_by.result c.locate_by.ensures.place c.in-Err.field-0 c.in-Err.is)
