use Rattle.indexset_core.specs.Digits.{digits}
use Rattle.indexset_events.proofs.CallerLemmas.{lawful_filled}
use Rattle.indexset_log.proofs.set.BTreeSet.locate_by.Goals as goal
use Rattle.std.proofs.Common.{length, arith, ap, sym, ◌∙◌}
use Rattle.indexset_log.proofs.TreeViewLemmas.{held}

pub locate_by-requires-clause-filled : goal.locate_by-requires-clause-filled
locate_by-requires-clause-filled g c = rw c.as_slice.ensures.value (λ _. lawful_filled g.T.Ord.cmp c.self.inside.size _ c.self.invariant.tree.lawful)

pub locate_by-requires-clause-parted : goal.locate_by-requires-clause-parted
locate_by-requires-clause-parted g c =
    let t = held g.Node.NodeLike.list c.self.inside.nodes.items c.self.view_is c.self.invariant in
    rw (c.as_slice.ensures.value, t.same) c.requires

pub returns-clause-place : goal.returns-clause-place
returns-clause-place g c =
    let t = held g.Node.NodeLike.list c.self.inside.nodes.items c.self.view_is c.self.invariant in
    rw (c.as_slice.ensures.value, t.same) at c.locate_by.ensures.place

pub returns-clause-comparisons : goal.returns-clause-comparisons
returns-clause-comparisons g c =
    let t = held g.Node.NodeLike.list c.self.inside.nodes.items c.self.view_is c.self.invariant in
    let law = t.rule.lawful in
    let many = ap digits (ap (λ l. length l) c.as_slice.ensures.value ∙ sym t.many) in
    omega (arith, many, c.locate_by.ensures.comparisons c.args.self.now.size (rw (c.as_slice.ensures.value, t.same) law.bounded))

pub returns-clause-unasked : goal.returns-clause-unasked
returns-clause-unasked g c none =
    let t = held g.Node.NodeLike.list c.self.inside.nodes.items c.self.view_is c.self.invariant in
    c.locate_by.ensures.unasked (ap (λ l. length l) c.as_slice.ensures.value ∙ (sym t.many ∙ ap (λ l. length l) none))
