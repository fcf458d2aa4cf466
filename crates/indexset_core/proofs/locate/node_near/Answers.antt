use Rattle.std.proofs.Common.{◌≡◌, ◌+◌, ◌-◌, ◌/◌, ◌%◌, cond, length, map, take, get_or, arith, sym, ◌∙◌}
use Rattle.std.proofs.lemmas.List.{get_or-take, length-map, length-take-le}
use Rattle.std.specs.Ordering.{is_eq, is_lt}
use Rattle.indexset_core.specs.Nodes.{node_for}
use Rattle.indexset_core.proofs.DigitsLemmas.{digits-half, digits-mono}
use Rattle.indexset_core.proofs.EndLemmas.{end_answer, end_found, end_is, front_parted}
use Rattle.indexset_core.proofs.LocateLemmas.{node_some}
use Rattle.indexset_core.proofs.NearbySearchLemmas.{equal_half, equal_met}
use Rattle.indexset_core.proofs.NodeLemmas.{node_read}
use Rattle.indexset_core.proofs.PartedLemmas.{narrowed_half, front-is_lt}
use Rattle.indexset_core.proofs.locate.node_near.Goals as goal

pub overflow_sub-node : goal.overflow_sub-node
overflow_sub-node g c =
    rw c.items_of-node.ensures
    (node_some (g.P.Probe.answer c.args.probe.now) g.R.NodeItems.list c.args.nodes.now _ c.index-nodes-middle.result
    (omega arith) c.index-nodes-middle.is (c.requires.filled (omega arith)))

pub bounds-node-node : goal.bounds-node-node
bounds-node-node g c =
    let some =
    node_some (g.P.Probe.answer c.args.probe.now) g.R.NodeItems.list c.args.nodes.now _ c.index-nodes-middle.result
    (omega arith) c.index-nodes-middle.is (c.requires.filled (omega arith)) in
    rw c.items_of-node.ensures (omega arith)

pub loop-left-preserved : goal.loop-left-preserved
loop-left-preserved g c =
    let at = c.loop-left in let nodes = c.args.nodes.now in let list = g.R.NodeItems.list in
    let answer = g.P.Probe.answer c.args.probe.now in
    let front = take (length nodes - 1) (map list nodes) in
    let node = c.index-nodes-middle.result in
    let filled = c.requires.filled (omega arith) in
    let some = node_some answer list nodes _ node (omega arith) c.index-nodes-middle.is filled in
    let end : end_answer answer (list node) ≡ answer c.index-node-node.result = end_is answer (list node) _ some (rw c.items_of-node.ensures at c.index-node-node.is) in
    let read : get_or front (at.low + at.left / 2) (list node) ≡ list node =
    get_or-take (length nodes - 1) (map list nodes) _ (list node) (omega arith)
    ∙ node_read list nodes _ node (omega arith) c.index-nodes-middle.is (list node) in
    let goes : c.choose-low.result ≡ cond (is_lt (answer c.index-node-node.result)) (at.low + at.left / 2 + at.left % 2) at.low = cc in
    let kept : c.choose-equal.result ≡ cond (is_eq (answer c.index-node-node.result)) (at.low + at.left / 2) at.equal = cc in
    let parted = front_parted answer (map list nodes) (length nodes - 1) filled c.requires.parted in
    let now = at.invariant.narrowed in
    let next = narrowed_half is_lt front-is_lt (end_answer answer) front parted at.low at.left (omega arith) now (list node) (sym read) c.choose-low.result (rw end goes) in
    record {
      within = omega (arith, next.within, length-take-le (length nodes - 1) (map list nodes) (omega (arith, length-map nodes list)));
      narrowed = next;
      equal = equal_half (end_answer answer) front parted at.low at.left at.equal (omega arith) now.within at.invariant.equal (list node) (sym read) _ _ (rw end goes) (rw end kept);
      fixed = cc;
      comparisons = omega (arith, digits-half at.left (omega arith));
    }

pub returns-clause-node : goal.returns-clause-node
returns-clause-node g c =
    let at = c.loop-left in let nodes = c.args.nodes.now in let list = g.R.NodeItems.list in
    let answer = g.P.Probe.answer c.args.probe.now in
    let front = take (length nodes - 1) (map list nodes) in
    let long : length front ≡ length nodes - 1 = length-take-le _ (map list nodes) (omega (arith, length-map nodes list)) in
    let done : at.low + at.left ≡ at.low = omega arith in
    let met = equal_met (end_answer answer) front at.low at.equal (rw done at at.invariant.equal) in
    let found : at.low ≡ node_for answer (map list nodes) =
    end_found answer (map list nodes) (length nodes - 1) at.low (omega (arith, length-map nodes list))
    (omega (arith, length-map nodes list)) (rw done at at.invariant.narrowed) in
    c.choose.ensures ∙ (rw long at met ∙ found)

pub returns-clause-comparisons : goal.returns-clause-comparisons
returns-clause-comparisons g c = omega (arith, digits-mono (length c.args.nodes.now - 1) (length c.args.nodes.now) (omega arith))
