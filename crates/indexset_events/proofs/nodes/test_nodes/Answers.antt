use Rattle.std.proofs.Common.{◌≡◌, ◌∙◌, Some, arith, map, refl}
use Rattle.indexset_events.specs.Attach.{nodes_refusal}
use Rattle.indexset_events.proofs.NodeOrderLemmas.{follow_step, follow_end, follow_lawful, lawful_taken, not_both}
use Rattle.indexset_events.proofs.nodes.test_nodes.Goals as goal

pub loop-node-preserved : goal.loop-node-preserved
loop-node-preserved g c = record {
  rest =
      c.loop-node.invariant.rest
      ∙ (follow_step g.T.Ord.cmp g.Node.NodeLike.list c.args.nodes.now c.loop-node.node-index c.args.size
      c.loop-node.before.now c.node-item.result c.as_slice-items.result.now (omega arith) c.node-item.is
      (c.as_slice-items.ensures.value ∙ c.iter.ensures)
      ∙ rw c.in_ok-test_node.ensures.good refl);
  up = c.in_ok-test_node.ensures.ascending;
}

pub returns-clause-good : goal.returns-clause-good
returns-clause-good g c = c.loop-node.invariant.rest ∙ follow_end g.T.Ord.cmp g.Node.NodeLike.list c.args.nodes.now c.loop-node.node-index c.args.size c.loop-node.before.now (omega arith)

pub returns-clause-lawful : goal.returns-clause-lawful
returns-clause-lawful g c =
    follow_lawful g.T.Ord.cmp g.met.T.Ord.total c.args.size (map g.Node.NodeLike.list c.args.nodes.now)
    (c.loop-node.invariant.rest
    ∙ follow_end g.T.Ord.cmp g.Node.NodeLike.list c.args.nodes.now c.loop-node.node-index c.args.size
    c.loop-node.before.now (omega arith))

pub returns-in_err-test_node-clause-taken : goal.returns-in_err-test_node-clause-taken
returns-in_err-test_node-clause-taken g c = λ law.
    let told : nodes_refusal g.T.Ord.cmp c.args.size (map g.Node.NodeLike.list c.args.nodes.now)
    ≡ Some c.in_err-test_node.field-0.0 =
    c.loop-node.invariant.rest
    ∙ (follow_step g.T.Ord.cmp g.Node.NodeLike.list c.args.nodes.now c.loop-node.node-index c.args.size
    c.loop-node.before.now c.node-item.result c.as_slice-items.result.now (omega arith) c.node-item.is
    (c.as_slice-items.ensures.value ∙ c.iter.ensures)
    ∙ rw c.in_err-test_node.ensures.refusal refl) in
    not_both (lawful_taken g.T.Ord.cmp c.args.size (map g.Node.NodeLike.list c.args.nodes.now) law) told
