use Rattle.std.proofs.Common.{◌≡◌, ◌-◌, length, map, [], arith, ◌∙◌}
use Rattle.std.proofs.lemmas.List.{length-map}
use Rattle.indexset_core.proofs.DigitsLemmas.{digits-left, digits-mono, digits-right}
use Rattle.indexset_core.proofs.LocateLemmas.{ends_until, node_ends, node_found, node_some}
use Rattle.indexset_core.proofs.locate.node_far.Goals as goal

pub overflow_sub-node : goal.overflow_sub-node
overflow_sub-node g c =
    rw c.items_of-node.ensures
    (node_some (g.P.Probe.answer c.args.probe.now) g.R.NodeItems.list c.args.nodes.now _ c.index-nodes-middle.result
    (omega arith) c.index-nodes-middle.is (c.requires.filled (omega arith)))

pub bounds-node-node : goal.bounds-node-node
bounds-node-node g c =
    let some =
    node_some (g.P.Probe.answer c.args.probe.now) g.R.NodeItems.list c.args.nodes.now _ c.index-nodes-middle.result
    (omega arith) c.index-nodes-middle.is (c.requires.filled (omega arith)) in
    rw c.items_of-node.ensures (omega arith)

pub loop-low-preserved-then-is_lt : goal.loop-low-preserved-then-is_lt
loop-low-preserved-then-is_lt g c =
    let at = c.loop-low in let nodes = c.args.nodes.now in let list = g.R.NodeItems.list in
    let answer = g.P.Probe.answer c.args.probe.now in
    let filled = c.requires.filled (omega arith) in
    let some = node_some answer list nodes _ c.index-nodes-middle.result (omega arith) c.index-nodes-middle.is filled in
    let ends = node_ends answer list nodes _ c.index-nodes-middle.result _ (omega arith) c.index-nodes-middle.is some (rw c.items_of-node.ensures at c.index-node-node.is) in
    record {
      order = omega arith;
      within = omega arith;
      less = ends_until answer (map list nodes) filled c.requires.parted _ (omega (arith, length-map nodes list)) (ends [] ∙ cc);
      not_less = at.invariant.not_less;
      fixed = cc;
      comparisons = omega (arith, digits-right at.low at.high (omega arith));
    }

pub loop-low-preserved : goal.loop-low-preserved
loop-low-preserved g c =
    let at = c.loop-low in let nodes = c.args.nodes.now in let list = g.R.NodeItems.list in
    let answer = g.P.Probe.answer c.args.probe.now in
    let some = node_some answer list nodes _ c.index-nodes-middle.result (omega arith) c.index-nodes-middle.is (c.requires.filled (omega arith)) in
    let ends = node_ends answer list nodes _ c.index-nodes-middle.result _ (omega arith) c.index-nodes-middle.is some (rw c.items_of-node.ensures at c.index-node-node.is) in
    record {
      order = omega arith;
      within = omega arith;
      less = at.invariant.less;
      not_less = λ _ d. ends d ∙ cc;
      fixed = cc;
      comparisons = omega (arith, digits-left at.low at.high (omega arith));
    }

pub returns-clause-node : goal.returns-clause-node
returns-clause-node g c =
    let nodes = c.args.nodes.now in let list = g.R.NodeItems.list in
    let meet : c.loop-low.high ≡ c.loop-low.low = omega arith in
    let n = length-map nodes list in
    node_found (g.P.Probe.answer c.args.probe.now) (map list nodes) c.loop-low.low (omega arith) (omega arith) c.loop-low.invariant.less
    (λ lt. (rw meet at c.loop-low.invariant.not_less) (omega arith))

pub returns-clause-comparisons : goal.returns-clause-comparisons
returns-clause-comparisons g c = omega (arith, digits-mono (length c.args.nodes.now - 1) (length c.args.nodes.now) (omega arith))
