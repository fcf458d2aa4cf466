use Rattle.std.proofs.Common.{◌≡◌, ◌+◌, length, map, arith, refl, ap, ◌∙◌}
use Rattle.std.proofs.lemmas.List.{length-map}
use Rattle.indexset_events.specs.Table.{put_events}
use Rattle.indexset_log.proofs.PutLemmas.{element_is, equal_is, events_count, grown, part_up, spot, whole_room}
use Rattle.indexset_log.proofs.TreeViewLemmas.{held, put_tree}
use Rattle.indexset_log.proofs.set.BTreeSet.put_in_target.Goals as goal

pub make_room-requires-clause-most : goal.make_room-requires-clause-most
make_room-requires-clause-most g c =
    let t = held g.Node.NodeLike.list c.self.inside.nodes.items c.self.view_is c.self.invariant in
    λ e. rw t.same (omega (arith, whole_room g.met.T.Ord.total t.rule c.requires.aim e, t.rule.within))

pub put_in-requires : goal.put_in-requires
put_in-requires g c =
    let t = held g.Node.NodeLike.list c.self.inside.nodes.items c.self.view_is c.self.invariant in
    let s = spot g.met.T.Ord.total t.rule c.requires.aim (map g.Node.NodeLike.list c.make_room.new.nodes.items) c.in-Ok.place t.same c.in-Ok.ensures.nodes c.in-Ok.ensures.place in
    record {
      place = omega (arith, length-map c.make_room.new.nodes.items g.Node.NodeLike.list, s.inside);
      ascending = rw s.part (part_up g.met.T.Ord.total t.rule c.requires.aim);
      found = rw s.part c.requires.aim.found;
      gap = rw s.part c.requires.aim.gap;
      room = λ e. c.in-Ok.ensures.room e;
      index = c.make_room.ensures.index;
      fits = λ e. omega (arith, ap (λ l. length l) s.same, t.rule.counted, c.growth.ensures, grown c.args.aim.at e);
    }

pub returns-in-Ok-clause-tree : goal.returns-in-Ok-clause-tree
returns-in-Ok-clause-tree g c =
    let t = held g.Node.NodeLike.list c.self.inside.nodes.items c.self.view_is c.self.invariant in
    let s = spot g.met.T.Ord.total t.rule c.requires.aim (map g.Node.NodeLike.list c.make_room.new.nodes.items) c.in-Ok.place t.same c.in-Ok.ensures.nodes c.in-Ok.ensures.place in
    let nodes = c.put_in.ensures.nodes ∙ s.made in
    let next : c.args.next
    ≡ c.args.self.now.next
    + length (put_events g.T.Ord.cmp c.args.self.now.size c.args.self.now.nodes c.args.value) =
    omega (arith, events_count g.met.T.Ord.total t.rule c.requires.aim, c.requires.next) in
    λ i. record { nodes = nodes i; size = t.sized i; next = next i }

pub invariant_of-self : goal.invariant_of-self
invariant_of-self g c =
    let t = held g.Node.NodeLike.list c.self.inside.nodes.items c.self.view_is c.self.invariant in
    let s = spot g.met.T.Ord.total t.rule c.requires.aim (map g.Node.NodeLike.list c.make_room.new.nodes.items) c.in-Ok.place t.same c.in-Ok.ensures.nodes c.in-Ok.ensures.place in
    record {
      tree = rw (c.put_in.ensures.nodes ∙ s.made, t.sized, c.growth-in-Ok.ensures, ← equal_is g.met.T.Ord.total t.rule c.requires.aim) (put_tree g.met.T.Ord.total t.rule c.args.value);
      index_is = c.put_in.ensures.index;
    }

pub returns-in-Ok-clause-answer : goal.returns-in-Ok-clause-answer
returns-in-Ok-clause-answer g c =
    let t = held g.Node.NodeLike.list c.self.inside.nodes.items c.self.view_is c.self.invariant in
    let s = spot g.met.T.Ord.total t.rule c.requires.aim (map g.Node.NodeLike.list c.make_room.new.nodes.items) c.in-Ok.place t.same c.in-Ok.ensures.nodes c.in-Ok.ensures.place in
    c.put_in.ensures.answer ∙ (rw s.part refl ∙ element_is g.met.T.Ord.total t.rule c.requires.aim)
