use Rattle.std.proofs.Common.{Some, ap, sym, ◌∙◌}
use Rattle.indexset_core.proofs.CallerLemmas.{end_at, end_gap, end_position, gap_position}
use Rattle.indexset_events.proofs.CallerLemmas.{lawful_filled}
use Rattle.indexset_log.proofs.set.BTreeSet.position_by.Goals as goal

pub returns-in-Ok-clause-found : goal.returns-in-Ok-clause-found
returns-in-Ok-clause-found g c =
    let answer = g.P.Probe.answer c.args.probe.now in
    let ns = c.args.self.now.nodes in
    let filled = lawful_filled g.T.Ord.cmp c.args.self.now.size ns c.recall_invariant.ensures.tree.lawful in
    end_position answer ns filled c.requires c.locate_by.result c.locate_by.ensures.place c.in-Ok.place c.in-Ok.is
    ∙ ap Some
    (sym
    (c.position.ensures
    ∙ (end_at answer ns filled c.requires c.locate_by.result c.locate_by.ensures.place c.in-Ok.place c.in-Ok.is).before))

pub returns-in-Err-clause-absent : goal.returns-in-Err-clause-absent
returns-in-Err-clause-absent g c =
    gap_position (g.P.Probe.answer c.args.probe.now) c.args.self.now.nodes
    (lawful_filled g.T.Ord.cmp c.args.self.now.size _ c.recall_invariant.ensures.tree.lawful) c.requires c.locate_by.result
    c.locate_by.ensures.place c.in-Err.place c.in-Err.is

pub returns-in-Err-clause-gap : goal.returns-in-Err-clause-gap
returns-in-Err-clause-gap g c =
    c.position-in-Err.ensures
    ∙ (end_gap (g.P.Probe.answer c.args.probe.now) c.args.self.now.nodes
    (lawful_filled g.T.Ord.cmp c.args.self.now.size _ c.recall_invariant.ensures.tree.lawful) c.requires c.locate_by.result
    c.locate_by.ensures.place c.in-Err.place c.in-Err.is).before
