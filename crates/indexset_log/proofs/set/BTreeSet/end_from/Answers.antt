use Rattle.std.proofs.Common.{◌≡◌, ℕ, ◌+◌, ◌-◌, ◌<◌, ◌≤◌, length, ap, ◌∙◌, arith}
use Rattle.indexset_core.specs.Nodes.{node_at}
use Rattle.indexset_core.specs.Parted.{not_greater_count}
use Rattle.indexset_core.proofs.CallerLemmas.{parted_node}
use Rattle.indexset_log.proofs.GallopLemmas.{at_most_all, before, ends_here, ends_inside, few_far, few_near, reaches, whole}
use Rattle.indexset_log.proofs.TreeViewLemmas.{held, node_held}
use Rattle.indexset_events.proofs.CallerLemmas.{lawful_filled, node_some}
use Rattle.indexset_log.proofs.set.BTreeSet.end_from.Given.{Over}
use Rattle.indexset_log.proofs.set.BTreeSet.end_from.Goals.{After-as_slice-2, After-as_slice-items, After-last_started-last, After-run_end, After-run_end-end}
use Rattle.indexset_log.proofs.set.BTreeSet.end_from.Goals as goal

-- the node of the place, as the search reads it
read : (g : Over) (c : After-as_slice-items g) → c.as_slice-items.result.now ≡ node_at c.args.self.now.nodes c.args.node
read g c =
    let t = held g.Node.NodeLike.list c.self.inside.nodes.items c.self.view_is c.self.invariant in
    c.as_slice-items.ensures.value ∙ (c.iter.ensures ∙ node_held t c.args.node c.requires.node c.index.ensures)

-- how many of its items are not past the end
end_is : (g : Over) (c : After-run_end-end g)
    → c.as_slice-items.result.now ≡ node_at c.args.self.now.nodes c.args.node
    → c.run_end-end.result
    ≡ not_greater_count (g.P.Probe.answer c.args.probe.now) (node_at c.args.self.now.nodes c.args.node)
end_is g c read = c.run_end-end.ensures.count ∙ ap (not_greater_count (g.P.Probe.answer c.args.probe.now)) read

begun : (g : Over) (c : After-as_slice-items g) → c.args.offset + 1 ≤ not_greater_count (g.P.Probe.answer c.args.probe.now) (node_at c.args.self.now.nodes c.args.node)
begun g c = reaches (g.P.Probe.answer c.args.probe.now) c.args.self.now.nodes c.requires.parted c.args.node c.requires.node c.args.offset c.requires.offset c.requires.started

pub run_end-end-requires-clause-parted : goal.run_end-end-requires-clause-parted
run_end-end-requires-clause-parted g c =
    rw (read g (goal.at.run_end-end-requires-clause-parted g c).After-as_slice-items)
    (parted_node (g.P.Probe.answer c.args.probe.now) c.args.self.now.nodes c.args.node c.requires.node
    c.requires.parted)

pub run_end-end-requires-clause-from : goal.run_end-end-requires-clause-from
run_end-end-requires-clause-from g c =
    let at = (goal.at.run_end-end-requires-clause-from g c).After-as_slice-items in
    rw (read g at) (begun g at)

pub returns-then-end-items-clause-before : goal.returns-then-end-items-clause-before
returns-then-end-items-clause-before g c =
    let at = goal.at.returns-then-end-items-clause-before g c in
    let is = read g at.After-as_slice-items in
    let end = end_is g at.After-run_end-end is in
    let some = begun g at.After-as_slice-items in
    rw end
    (ends_inside (g.P.Probe.answer c.args.probe.now) c.args.self.now.nodes c.requires.parted c.args.node
    c.requires.node (omega (arith, some)) (omega (arith, end, c.if-end-items.true, ap (λ l. length l) is)))

pub last_started-last-requires-clause-filled : goal.last_started-last-requires-clause-filled
last_started-last-requires-clause-filled g c = rw c.as_slice.ensures.value (lawful_filled g.T.Ord.cmp c.self.inside.size _ c.self.invariant.tree.lawful)

pub last_started-last-requires-clause-parted : goal.last_started-last-requires-clause-parted
last_started-last-requires-clause-parted g c =
    let t = held g.Node.NodeLike.list c.self.inside.nodes.items c.self.view_is c.self.invariant in
    rw (c.as_slice.ensures.value, t.same, c.run_end-end.ensures.fixed) c.requires.parted

pub last_started-last-requires-clause-started : goal.last_started-last-requires-clause-started
last_started-last-requires-clause-started g c =
    let t = held g.Node.NodeLike.list c.self.inside.nodes.items c.self.view_is c.self.invariant in
    rw (c.as_slice.ensures.value, t.same, c.run_end-end.ensures.fixed) (omega (arith, c.requires.started))

-- the last node that begins before the end
record Last (g : Over) (c : After-last_started-last g) : Type 0 where
  pub inside : c.last_started-last.result < length c.args.self.now.nodes
  pub started : before c.args.self.now.nodes c.last_started-last.result < whole (g.P.Probe.answer c.args.probe.now) c.args.self.now.nodes
  pub ended : whole (g.P.Probe.answer c.args.probe.now) c.args.self.now.nodes ≤ before c.args.self.now.nodes (c.last_started-last.result + 1)
  pub filled : (k : ℕ) → k < length c.args.self.now.nodes → 1 ≤ length (node_at c.args.self.now.nodes k)
  pub fixed : g.P.Probe.answer c.last_started-last.new.probe ≡ g.P.Probe.answer c.args.probe.now

last : (g : Over) (c : After-last_started-last g) → Last g c
last g c =
    let t = held g.Node.NodeLike.list c.self.inside.nodes.items c.self.view_is c.self.invariant in
    let made = c.last_started-last.ensures in
    record {
      inside = omega (arith, made.node, t.many, ap (λ l. length l) c.as_slice.ensures.value);
      started = rw (c.as_slice.ensures.value, t.same, c.run_end-end.ensures.fixed) at made.started;
      ended = rw (c.as_slice.ensures.value, t.same, c.run_end-end.ensures.fixed) at made.ended;
      filled = node_some g.T.Ord.cmp c.args.self.now.size c.args.self.now.nodes t.rule.lawful;
      fixed = made.fixed ∙ c.run_end-end.ensures.fixed;
    }

read_last : (g : Over) (c : After-as_slice-2 g) → c.last_started-last.result < length c.args.self.now.nodes → c.as_slice-2.result.now ≡ node_at c.args.self.now.nodes c.last_started-last.result
read_last g c inside =
    let t = held g.Node.NodeLike.list c.self.inside.nodes.items c.self.view_is c.self.invariant in
    c.as_slice-2.ensures.value ∙ (c.iter-2.ensures ∙ node_held t c.last_started-last.result inside c.index-2.ensures)

begun_last : (g : Over) (c : After-last_started-last g) → Last g c → 1 ≤ not_greater_count (g.P.Probe.answer c.args.probe.now) (node_at c.args.self.now.nodes c.last_started-last.result)
begun_last g c l =
    reaches (g.P.Probe.answer c.args.probe.now) c.args.self.now.nodes c.requires.parted c.last_started-last.result l.inside 0 (l.filled c.last_started-last.result l.inside) (omega (arith, l.started))

pub returns-then-last-node-clause-before : goal.returns-then-last-node-clause-before
returns-then-last-node-clause-before g c =
    let at = goal.at.returns-then-last-node-clause-before g c in
    let is = read g at.After-as_slice-items in
    let end = end_is g at.After-run_end-end is in
    let l = last g at.After-last_started-last in
    let some = begun g at.After-as_slice-items in
    let same : c.last_started-last.result ≡ c.args.node = c.if-last-node.true in
    rw end (ends_here (g.P.Probe.answer c.args.probe.now) c.args.self.now.nodes c.requires.parted c.args.node c.requires.node (omega (arith, some)) (rw same at l.ended))

pub returns-then-last-node-clause-comparisons : goal.returns-then-last-node-clause-comparisons
returns-then-last-node-clause-comparisons g c =
    let at = goal.at.returns-then-last-node-clause-comparisons g c in
    let is = read g at.After-as_slice-items in
    let end = end_is g at.After-run_end-end is in
    let some = begun g at.After-as_slice-items in
    let same : c.last_started-last.result ≡ c.args.node = c.if-last-node.true in
    let none : c.last_started-last.result - c.args.node ≡ 0 = omega (arith, same) in
    let le = at_most_all (g.P.Probe.answer c.args.probe.now) (node_at c.args.self.now.nodes c.args.node) in
    let full : c.run_end-end.result ≡ length c.as_slice-items.result.now = omega (arith, c.if-end-items.false, end, le, ap (λ l. length l) is) in
    few_near (before c.args.self.now.nodes c.args.node) c.args.offset c.run_end-end.result
    (g.P.Probe.asked c.run_end-end.new.probe) (g.P.Probe.asked c.last_started-last.new.probe)
    (g.P.Probe.asked c.args.probe.now) (omega (arith, end, some)) c.run_end-end.ensures.comparisons
    (λ e. c.run_end-end.ensures.unasked (omega (arith, e, full)))
    (rw none at c.last_started-last.ensures.comparisons)

pub run_end-requires-clause-parted : goal.run_end-requires-clause-parted
run_end-requires-clause-parted g c =
    let at = goal.at.run_end-requires-clause-parted g c in
    let l = last g at.After-last_started-last in
    rw (read_last g at.After-as_slice-2 l.inside, l.fixed) (parted_node (g.P.Probe.answer c.args.probe.now) c.args.self.now.nodes c.last_started-last.result l.inside c.requires.parted)

pub run_end-requires-clause-from : goal.run_end-requires-clause-from
run_end-requires-clause-from g c =
    let at = goal.at.run_end-requires-clause-from g c in
    let l = last g at.After-last_started-last in
    rw (read_last g at.After-as_slice-2 l.inside, l.fixed) (begun_last g at.After-last_started-last l)

-- how many items of the last node are not past the end
end_last : (g : Over) (c : After-run_end g)
    → g.P.Probe.answer c.last_started-last.new.probe ≡ g.P.Probe.answer c.args.probe.now
    → c.as_slice-2.result.now ≡ node_at c.args.self.now.nodes c.last_started-last.result
    → c.run_end.result
    ≡ not_greater_count (g.P.Probe.answer c.args.probe.now) (node_at c.args.self.now.nodes c.last_started-last.result)
end_last g c fixed read = c.run_end.ensures.count ∙ (ap (λ a. not_greater_count a c.as_slice-2.result.now) fixed ∙ ap (not_greater_count (g.P.Probe.answer c.args.probe.now)) read)

pub returns-clause-before : goal.returns-clause-before
returns-clause-before g c =
    let at = goal.at.returns-clause-before g c in
    let l = last g at.After-last_started-last in
    rw (end_last g at.After-run_end l.fixed (read_last g at.After-as_slice-2 l.inside))
    (ends_here (g.P.Probe.answer c.args.probe.now) c.args.self.now.nodes c.requires.parted
    c.last_started-last.result l.inside (begun_last g at.After-last_started-last l) l.ended)

pub returns-clause-comparisons : goal.returns-clause-comparisons
returns-clause-comparisons g c =
    let at = goal.at.returns-clause-comparisons g c in
    let is = read g at.After-as_slice-items in
    let end = end_is g at.After-run_end-end is in
    let l = last g at.After-last_started-last in
    let le = at_most_all (g.P.Probe.answer c.args.probe.now) (node_at c.args.self.now.nodes c.args.node) in
    let full : c.run_end-end.result ≡ length (node_at c.args.self.now.nodes c.args.node) = omega (arith, c.if-end-items.false, end, le, ap (λ l. length l) is) in
    let some = begun_last g at.After-last_started-last l in
    few_far c.args.self.now.nodes l.filled c.args.node c.last_started-last.result c.args.offset c.run_end.result
    (g.P.Probe.asked c.run_end-end.new.probe) (g.P.Probe.asked c.last_started-last.new.probe)
    (g.P.Probe.asked c.run_end.new.probe) (g.P.Probe.asked c.args.probe.now) c.requires.offset
    (omega (arith, c.last_started-last.ensures.order, c.if-last-node.false)) l.inside
    (omega (arith, some, end_last g at.After-run_end l.fixed (read_last g at.After-as_slice-2 l.inside)))
    (rw full at c.run_end-end.ensures.comparisons) c.last_started-last.ensures.comparisons
    c.run_end.ensures.comparisons

pub returns-then-end-items-clause-place : goal.returns-then-end-items-clause-place
returns-then-end-items-clause-place g c =
    let at = goal.at.returns-then-end-items-clause-place g c in
    let end = end_is g at.After-run_end-end (read g at.After-as_slice-items) in
    record { node_in = omega (arith, c.requires.node); offset_in = omega (arith, end, at_most_all (g.P.Probe.answer c.args.probe.now) (node_at c.args.self.now.nodes c.args.node)) }

pub returns-then-end-items-clause-fixed : goal.returns-then-end-items-clause-fixed
returns-then-end-items-clause-fixed g c = c.run_end-end.ensures.fixed

pub returns-then-last-node-clause-place : goal.returns-then-last-node-clause-place
returns-then-last-node-clause-place g c =
    let at = goal.at.returns-then-last-node-clause-place g c in
    let end = end_is g at.After-run_end-end (read g at.After-as_slice-items) in
    record { node_in = omega (arith, c.requires.node); offset_in = omega (arith, end, at_most_all (g.P.Probe.answer c.args.probe.now) (node_at c.args.self.now.nodes c.args.node)) }

pub returns-then-last-node-clause-fixed : goal.returns-then-last-node-clause-fixed
returns-then-last-node-clause-fixed g c = c.last_started-last.ensures.fixed ∙ c.run_end-end.ensures.fixed

pub returns-clause-place : goal.returns-clause-place
returns-clause-place g c =
    let at = goal.at.returns-clause-place g c in
    let l = last g at.After-last_started-last in
    let end = end_last g at.After-run_end l.fixed (read_last g at.After-as_slice-2 l.inside) in
    record { node_in = omega (arith, l.inside); offset_in = omega (arith, end, at_most_all (g.P.Probe.answer c.args.probe.now) (node_at c.args.self.now.nodes c.last_started-last.result)) }

pub returns-clause-fixed : goal.returns-clause-fixed
returns-clause-fixed g c = c.run_end.ensures.fixed ∙ (c.last_started-last.ensures.fixed ∙ c.run_end-end.ensures.fixed)
