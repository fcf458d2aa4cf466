use Rattle.std.proofs.Common.{List, ◌∙◌, ◌-◌, ap, sym, arith, get_or, slice_set}
use Rattle.indexset_core.specs.Nodes.{node_lengths, vec_items}
use Rattle.indexset_spine.proofs.RemoveSteps.{item_taken, item_out}
use Rattle.indexset_index.proofs.CallerLemmas.{count-lengths, length-at}
use Rattle.indexset_spine.proofs.IndexLemmas.{lengths-less}
use Rattle.indexset_spine.proofs.spine.remove.remove_from_node.Goals as goal

pub sub-requires-clause-inside : goal.sub-requires-clause-inside
sub-requires-clause-inside g c = rw c.requires.index (omega (arith, c.requires.spot.node_in, count-lengths (vec_items c.args.nodes.now.items)))

pub sub-requires-clause-enough : goal.sub-requires-clause-enough
sub-requires-clause-enough g c = rw c.requires.index (omega (arith, c.requires.spot.offset_in, length-at (vec_items c.args.nodes.now.items) c.args.spot.node c.requires.spot.node_in))

pub drop_indexed_if_empty-requires-clause-index : goal.drop_indexed_if_empty-requires-clause-index
drop_indexed_if_empty-requires-clause-index g c =
    let out = item_out _ c.args.spot _ c.remove_item-value.new.items c.requires.spot c.index_mut.ensures.value c.remove_item-value.ensures.items in
    let k = c.args.spot.node in
    c.sub.ensures.lengths
    ∙ (ap (λ ls. slice_set ls k (get_or ls k 0 - 1)) c.requires.index
    ∙ sym (ap (λ (ns : List (List g.row.T.Denot)). node_lengths ns) out ∙ lengths-less (vec_items c.args.nodes.now.items) c.args.spot c.requires.spot))

pub returns-clause-nodes : goal.returns-clause-nodes
returns-clause-nodes g c = c.drop_indexed_if_empty.ensures.nodes ∙ item_taken _ c.args.spot _ _ c.requires.spot c.index_mut.ensures.value c.remove_item-value.ensures.items
