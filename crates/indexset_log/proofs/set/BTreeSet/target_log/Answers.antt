use Rattle.std.proofs.Common.{◌≡◌, arith, ◌∙◌}
use Rattle.indexset_core.specs.Nodes.{node_at}
use Rattle.indexset_events.specs.Table.{part_for}
use Rattle.indexset_events.proofs.CallerLemmas.{node_some, zip_on}
use Rattle.indexset_log.proofs.PutLemmas.{events_count, events_numbered, half_is, part_some, part_up, parts_length}
use Rattle.indexset_log.proofs.TreeViewLemmas.{held, node_held}
use Rattle.indexset_log.proofs.set.BTreeSet.target_log.Given.{Over}
use Rattle.indexset_log.proofs.set.BTreeSet.target_log.Goals.{After-as_slice-items, After-part_of}
use Rattle.indexset_log.proofs.set.BTreeSet.target_log.Goals as goal

-- the node that the item is inserted into
read : (g : Over) (c : After-as_slice-items g) → c.as_slice-items.result.now ≡ node_at c.args.self.now.nodes c.args.aim.now.node
read g c =
    let t = held g.Node.NodeLike.list c.self.inside.nodes.items c.self.view_is c.self.invariant in
    c.as_slice-items.ensures.value ∙ (c.iter.ensures ∙ node_held t c.args.aim.now.node c.requires.aim.node_in c.index.ensures)

-- the part of it
half : (g : Over) (c : After-part_of g) → c.part_of.result.now ≡ part_for g.T.Ord.cmp c.args.self.now.size (node_at c.args.self.now.nodes c.args.aim.now.node) c.args.value.now
half g c =
    let t = held g.Node.NodeLike.list c.self.inside.nodes.items c.self.view_is c.self.invariant in
    c.part_of.ensures
    ∙ rw
    (c.as_slice-items.ensures.value
    ∙ (c.iter.ensures ∙ node_held t c.args.aim.now.node c.requires.aim.node_in c.index.ensures))
    (half_is g.met.T.Ord.total t.rule c.requires.aim)

pub add_halving-requires-clause-some : goal.add_halving-requires-clause-some
add_halving-requires-clause-some g c =
    let t = held g.Node.NodeLike.list c.self.inside.nodes.items c.self.view_is c.self.invariant in
    rw (read g (goal.at.add_halving-requires-clause-some g c).After-as_slice-items)
    (node_some g.T.Ord.cmp c.args.self.now.size c.args.self.now.nodes t.rule.lawful c.args.aim.now.node
    c.requires.aim.node_in)

pub add_halving-requires-clause-fits : goal.add_halving-requires-clause-fits
add_halving-requires-clause-fits g c =
    let t = held g.Node.NodeLike.list c.self.inside.nodes.items c.self.view_is c.self.invariant in
    rw (t.sized, read g (goal.at.add_halving-requires-clause-fits g c).After-as_slice-items)
    (omega (
      arith,
      c.requires.fits,
      events_count g.met.T.Ord.total t.rule c.requires.aim,
      parts_length g.met.T.Ord.total t.rule c.requires.aim,
      c.new-log.ensures.next,
      t.numbered,
    ))

pub add_put-requires : goal.add_put-requires
add_put-requires g c =
    let t = held g.Node.NodeLike.list c.self.inside.nodes.items c.self.view_is c.self.invariant in
    let part = half g (goal.at.add_put-requires g c).After-part_of in
    let next = rw (c.new-log.ensures.next, t.numbered, t.sized, read g (goal.at.add_put-requires g c).After-as_slice-items) at c.in_ok-add_halving.ensures.next in
    record {
      some = rw part (part_some g.met.T.Ord.total t.rule c.requires.aim);
      ascending = rw part (part_up g.met.T.Ord.total t.rule c.requires.aim);
      found = rw part c.requires.aim.found;
      gap = rw part c.requires.aim.gap;
      fits = rw part (omega (arith, c.requires.fits, events_count g.met.T.Ord.total t.rule c.requires.aim, parts_length g.met.T.Ord.total t.rule c.requires.aim, next));
    }

pub returns-clause-events : goal.returns-clause-events
returns-clause-events g c =
    let t = held g.Node.NodeLike.list c.self.inside.nodes.items c.self.view_is c.self.invariant in
    let next = rw (c.new-log.ensures.next, t.numbered, t.sized, read g (goal.at.returns-clause-events g c).After-as_slice-items) at c.in_ok-add_halving.ensures.next in
    let halving =
    rw (
      c.new-log.ensures.events,
      c.new-log.ensures.next,
      t.numbered,
      t.sized,
      read g (goal.at.returns-clause-events g c).After-as_slice-items,
    )
    at (c.in_ok-add_halving.ensures.clones c.args.value.now) in
    let told = c.in_ok-add_put.ensures.clones in
    rw (
      events_numbered g.met.T.Ord.total t.rule c.requires.aim c.args.self.now.next,
      ← next,
      ← half g (goal.at.returns-clause-events g c).After-part_of,
    )
    (rw (told.1, halving.1) (zip_on _ _ _ _ _ halving.2 told.2))
