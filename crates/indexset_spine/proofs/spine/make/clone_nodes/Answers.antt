use Rattle.std.proofs.Common.{arith}
use Rattle.std.specs.List.{AllZip}
use Rattle.indexset_core.specs.Nodes.{vec_items}
use Rattle.indexset_spine.proofs.CopyLemmas.{copies_lengths, copies_more, copies_same, copies_whole}
use Rattle.indexset_spine.proofs.spine.make.clone_nodes.Goals as goal

pub loop-node-preserved : goal.loop-node-preserved
loop-node-preserved g c =
    let clones = g.T.Clone.is_clone in
    let cloned : AllZip clones c.node-item.result.items c.in_ok-from_clones.field-0.items = rw (← c.as_slice.ensures.value) ((c.in_ok-from_clones.ensures {u = tt}).items) in
    record {
      count = omega (arith, c.push_reserved.ensures.len);
      room = omega (arith, c.push_reserved.ensures.capacity);
      cloned =
          rw c.push_reserved.ensures.items
          (copies_more clones c.loop-node.copies.items c.args.nodes.now c.loop-node.node-index c.node-item.result
          c.in_ok-from_clones.field-0 c.loop-node-test.true c.node-item.is cloned c.loop-node.invariant.cloned);
    }

pub returns-clause-lengths : goal.returns-clause-lengths
returns-clause-lengths g c =
    let ns = vec_items c.args.nodes.now in
    let ms = vec_items c.loop-node.copies.items in
    copies_lengths g.T.Clone.is_clone ns ms (copies_whole g.T.Clone.is_clone c.args.nodes.now ms c.loop-node.node-index c.loop-node-test.false c.loop-node.invariant.cloned)

pub returns-clause-nodes : goal.returns-clause-nodes
returns-clause-nodes g c = λ same.
    let ns = vec_items c.args.nodes.now in
    let ms = vec_items c.loop-node.copies.items in
    copies_same g.T.Clone.is_clone same ns ms (copies_whole g.T.Clone.is_clone c.args.nodes.now ms c.loop-node.node-index c.loop-node-test.false c.loop-node.invariant.cloned)
