use Rattle.std.proofs.Common.{◌∙◌, ap, sym, arith}
use Rattle.std.proofs.lemmas.Bool.Decides.{nat_tests}
use Rattle.indexset_core.specs.Nodes.{vec_items}
use Rattle.indexset_spine.proofs.VecNodes.{length-vec_items}
use Rattle.indexset_spine.proofs.EditSteps.{node_len}
use Rattle.indexset_spine.proofs.RemoveSteps.{vec_items-remove, emptied_goes, only_stays, filled_stays}
use Rattle.indexset_spine.proofs.spine.remove.drop_if_empty.Goals.{else-is_empty-via-then-is_empty+else-len-gt1, else-is_empty-via-else-is_empty}
use Rattle.indexset_spine.proofs.spine.remove.drop_if_empty.Goals as goal

pub returns-then-len-gt1-clause-nodes : goal.returns-then-len-gt1-clause-nodes
returns-then-len-gt1-clause-nodes g c =
    let long = node_len c.args.nodes.now.items c.args.k _ c.requires c.index.ensures in
    ap vec_items c.remove_item.ensures.items
    ∙ (vec_items-remove c.args.nodes.now.items c.args.k
    ∙ sym
    (emptied_goes (vec_items c.args.nodes.now.items) c.args.k (grind (arith, nat_tests))
    (omega (arith, length-vec_items c.args.nodes.now.items, c.len.ensures))))

pub returns-clause-nodes : goal.returns-clause-nodes
returns-clause-nodes g c =
    let long = node_len c.args.nodes.now.items c.args.k _ c.requires c.index.ensures in
    elim c.else-is_empty.branch [
      | else-is_empty-via-then-is_empty+else-len-gt1 w ↦ sym (only_stays (vec_items c.args.nodes.now.items) c.args.k (omega (arith, length-vec_items c.args.nodes.now.items, w.len.ensures)))
      | else-is_empty-via-else-is_empty w ↦ sym (filled_stays (vec_items c.args.nodes.now.items) c.args.k (grind (arith, nat_tests)))
    ]
