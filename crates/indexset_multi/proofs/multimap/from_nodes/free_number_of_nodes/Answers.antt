use Rattle.std.proofs.Common.{◌≡◌, ◌<◌, ◌∙◌, ◌||◌, false, length, ap, arith}
use Rattle.indexset_multi.specs.Attach.{has_greatest}
use Rattle.indexset_multi.proofs.FreeNumberLemmas.{free_read, greatest_among, greatest_read}
use Rattle.indexset_multi.proofs.multimap.from_nodes.free_number_of_nodes.Goals as goal

pub returns-in_err-free_number : goal.returns-in_err-free_number
returns-in_err-free_number g c =
    let list = g.Node.NodeLike.list in
    let inside : c.loop-node.node-index < length c.args.nodes.now = omega arith in
    let whole : c.as_slice.result.now ≡ list c.node-item.result = c.as_slice.ensures.value ∙ c.iter.ensures in
    rw c.from_residual.ensures (greatest_among list c.args.nodes.now c.loop-node.node-index c.node-item.result inside c.node-item.is (rw whole at c.in_err-free_number.ensures))

pub loop-node-preserved : goal.loop-node-preserved
loop-node-preserved g c =
    let list = g.Node.NodeLike.list in
    let nodes = c.args.nodes.now in
    let i = c.loop-node.node-index in
    let node = c.node-item.result in
    let inside : i < length nodes = omega arith in
    let whole : c.as_slice.result.now ≡ list node = c.as_slice.ensures.value ∙ c.iter.ensures in
    let none : has_greatest (list node) ≡ false = rw whole at c.in_ok-free_number.ensures.0 in
    let free = rw whole at c.in_ok-free_number.ensures.1 in
    record {
      free = rw (free_read list nodes i node inside c.node-item.is) (omega (arith, c.max-free.ensures, c.loop-node.invariant.free, free));
      none = greatest_read list nodes i node inside c.node-item.is ∙ (ap (λ b. b || has_greatest (list node)) c.loop-node.invariant.none ∙ none);
    }
