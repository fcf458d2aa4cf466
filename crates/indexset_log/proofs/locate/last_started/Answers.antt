use Rattle.std.proofs.Common.{◌≡◌, ◌+◌, ◌-◌, ◌<◌, ◌≤◌, true, false, [], length, map, Some, slice_get, refl, sym, arith}
use Rattle.std.specs.Ordering.{is_gt}
use Rattle.std.proofs.lemmas.List.{length-map}
use Rattle.indexset_core.specs.Nodes.{node_at}
use Rattle.indexset_log.proofs.GallopLemmas.{next_inside, no_first, starts, starts_not, stepped_back, stepped_first, stepped_on, whole_le}
use Rattle.indexset_events.proofs.CallerLemmas.{filled_here, view_at}
use Rattle.indexset_log.proofs.locate.last_started.Given.{Over}
use Rattle.indexset_log.proofs.locate.last_started.Goals.{After-next_step-at, In-Some}
use Rattle.indexset_log.proofs.locate.last_started.Goals as goal

-- the node that the code reads
at : (g : Over) (c : After-next_step-at g) → (c.loop-low.low ≤ c.next_step-at.result) × (c.next_step-at.result < c.loop-low.high)
at g c =
    let inv = c.loop-low.invariant in
    let inside =
    next_inside (c.args.node + 1) c.loop-low.low c.loop-low.high (length c.args.nodes.now)
    (g.P.Probe.asked c.loop-low.probe) (g.P.Probe.asked c.args.probe.now) inv.order c.loop-low-test.true inv.within
    inv.comparisons in
    (omega (arith, inside.0, c.next_step-at.ensures), omega (arith, inside.1, c.next_step-at.ensures))

-- its first item
first : (g : Over) (c : In-Some g) → c.next_step-at.result < length c.args.nodes.now
    → slice_get (node_at (map g.Node.NodeLike.list c.args.nodes.now) c.next_step-at.result) 0 ≡ Some c.in-Some.first.now
first g c inside =
    let read = view_at g.Node.NodeLike.list c.args.nodes.now c.next_step-at.result c.index-nodes-at.result inside c.index-nodes-at.is [] in
    rw read (sym (rw c.in-Some.is at c.min.ensures))

pub loop-low-init : goal.loop-low-init
loop-low-init g c =
    let ns = map g.Node.NodeLike.list c.args.nodes.now in
    let answer = g.P.Probe.answer c.args.probe.now in
    record {
      order = omega arith;
      meet = omega (arith, c.requires.node);
      within = omega arith;
      started = λ k e. let same : k ≡ c.args.node = omega (arith, e) in rw same c.requires.started;
      ended = rw (← length-map c.args.nodes.now g.Node.NodeLike.list) (whole_le answer ns c.requires.parted);
      fixed = refl;
      comparisons = stepped_first (c.args.node + 1) (length c.args.nodes.now) (g.P.Probe.asked c.args.probe.now);
    }

pub next_step-at-requires-clause-order : goal.next_step-at-requires-clause-order
next_step-at-requires-clause-order g c = c.loop-low.invariant.order

pub unreachable-requires : goal.unreachable-requires
unreachable-requires g c =
    let inside = at g (goal.at.unreachable-requires g c).After-next_step-at in
    no_first (g.Node.NodeLike.list c.index-nodes-at.result)
    (filled_here g.Node.NodeLike.list c.args.nodes.now c.next_step-at.result c.index-nodes-at.result
    (omega (arith, inside.1, c.loop-low.invariant.within)) c.index-nodes-at.is c.requires.filled)
    (sym (rw c.in_default.is at c.min.ensures))

pub loop-low-preserved-then-is_gt : goal.loop-low-preserved-then-is_gt
loop-low-preserved-then-is_gt g c =
    let low = c.loop-low in let inv = low.invariant in
    let ns = map g.Node.NodeLike.list c.args.nodes.now in
    let answer = g.P.Probe.answer c.args.probe.now in
    let within = goal.at.loop-low-preserved-then-is_gt g c in
    let inside = at g within.After-next_step-at in
    let past : is_gt (answer c.in-Some.first.now) ≡ true = cc in
    record {
      order = inv.order;
      meet = inside.0;
      within = omega (arith, inside.1, inv.within);
      started = inv.started;
      ended =
          starts_not answer ns c.requires.parted c.next_step-at.result
          (omega (arith, inside.1, inv.within, length-map c.args.nodes.now g.Node.NodeLike.list)) c.in-Some.first.now
          (first g within.In-Some (omega (arith, inside.1, inv.within))) past;
      fixed = cc;
      comparisons =
          rw c.place.ensures.counted
          (stepped_back (c.args.node + 1) low.low low.high (length c.args.nodes.now) (g.P.Probe.asked low.probe)
          (g.P.Probe.asked c.args.probe.now) inv.order c.loop-low-test.true inv.within inv.comparisons
          c.next_step-at.result c.next_step-at.ensures);
    }

pub loop-low-preserved : goal.loop-low-preserved
loop-low-preserved g c =
    let low = c.loop-low in let inv = low.invariant in
    let ns = map g.Node.NodeLike.list c.args.nodes.now in
    let answer = g.P.Probe.answer c.args.probe.now in
    let within = goal.at.loop-low-preserved g c in
    let inside = at g within.After-next_step-at in
    let passes : is_gt (answer c.in-Some.first.now) ≡ false = cc in
    let started =
    starts answer ns c.requires.parted c.next_step-at.result
    (omega (arith, inside.1, inv.within, length-map c.args.nodes.now g.Node.NodeLike.list)) c.in-Some.first.now
    (first g within.In-Some (omega (arith, inside.1, inv.within))) passes in
    record {
      order = omega (arith, inside.0, inv.order);
      meet = omega (arith, inside.1);
      within = inv.within;
      started = λ k e. let same : k ≡ c.next_step-at.result = omega (arith, e) in rw same started;
      ended = inv.ended;
      fixed = cc;
      comparisons =
          rw c.place.ensures.counted
          (stepped_on (c.args.node + 1) low.low low.high (length c.args.nodes.now) (g.P.Probe.asked low.probe)
          (g.P.Probe.asked c.args.probe.now) inv.order c.loop-low-test.true inv.within inv.comparisons
          c.next_step-at.result c.next_step-at.ensures);
    }

pub returns-clause-started : goal.returns-clause-started
returns-clause-started g c =
    let some : c.loop-low.low - 1 + 1 ≡ c.loop-low.low = omega (arith, c.loop-low.invariant.order) in
    c.loop-low.invariant.started (c.loop-low.low - 1) some

pub returns-clause-ended : goal.returns-clause-ended
returns-clause-ended g c =
    let same : c.loop-low.high ≡ c.loop-low.low - 1 + 1 = omega (arith, c.loop-low.invariant.order, c.loop-low.invariant.meet, c.loop-low-test.false) in
    rw same at c.loop-low.invariant.ended

pub returns-clause-comparisons : goal.returns-clause-comparisons
returns-clause-comparisons g c =
    let same : c.loop-low.low - 1 - c.args.node ≡ c.loop-low.low - (c.args.node + 1) = omega arith in
    rw same (c.loop-low.invariant.comparisons.met c.loop-low-test.false)
