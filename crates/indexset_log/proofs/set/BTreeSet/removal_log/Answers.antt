use Rattle.std.proofs.Common.{◌+◌, ◌∙◌, arith, sym}
use Rattle.indexset_core.specs.Nodes.{node_at}
use Rattle.indexset_events.proofs.CallerLemmas.{both_cloned, one_cloned, some_read, some_taken}
use Rattle.indexset_log.proofs.TreeViewLemmas.{held}
use Rattle.indexset_log.proofs.set.BTreeSet.removal_log.Goals as goal

pub add-requires : goal.add-requires
add-requires g c =
    let t = held g.Node.NodeLike.list c.self.inside.nodes.items c.self.view_is c.self.invariant in
    let numbers = rw c.requires.join at c.requires.numbers in
    omega (arith, c.new-log.ensures.next, t.numbered, numbers, some_taken c.args.self.now.size c.args.self.now.nodes c.args.node c.args.offset)

pub returns-in_ok-add-in-Some-clause-events : goal.returns-in_ok-add-in-Some-clause-events
returns-in_ok-add-in-Some-clause-events g c =
    let t = held g.Node.NodeLike.list c.self.inside.nodes.items c.self.view_is c.self.invariant in
    let s = c.args.self.now.next in
    let there = some_read (node_at c.args.self.now.nodes c.args.node) c.args.offset c.requires.offset in
    let first = rw there.1 at (c.in_ok-removal_event.ensures.clones s) in
    let second = c.in_ok-merge_event-in-Some.ensures.clones (s + 1) there.0 in
    let one = rw (c.new-log.ensures.events, c.new-log.ensures.next, t.numbered) at c.in_ok-add.ensures.events in
    let next = rw (c.new-log.ensures.next, t.numbered) at c.in_ok-add.ensures.next in
    let two = rw (one, next) at c.in_ok-add-in-Some.ensures.events in
    rw there.1
    (both_cloned _ s c.args.self.now.size c.args.self.now.nodes c.args.node c.args.offset there.0
    c.in_ok-removal_event.field-0 first c.in_ok-merge_event-in-Some.field-0 (sym c.requires.join ∙ c.in-Some.is)
    second two)

pub returns-in-None-clause-events : goal.returns-in-None-clause-events
returns-in-None-clause-events g c =
    let t = held g.Node.NodeLike.list c.self.inside.nodes.items c.self.view_is c.self.invariant in
    let s = c.args.self.now.next in
    let there = some_read (node_at c.args.self.now.nodes c.args.node) c.args.offset c.requires.offset in
    let first = rw there.1 at (c.in_ok-removal_event.ensures.clones s) in
    let one = rw (c.new-log.ensures.events, c.new-log.ensures.next, t.numbered) at c.in_ok-add.ensures.events in
    rw there.1 (one_cloned _ s c.args.self.now.size c.args.self.now.nodes c.args.node c.args.offset there.0 c.in_ok-removal_event.field-0 first (sym c.requires.join ∙ c.in-None.is) one)
