use Rattle.std.proofs.Common.{List, ◌∙◌, ◌+◌, ap, sym, arith, get_or, slice_set}
use Rattle.indexset_core.specs.Nodes.{node_lengths, vec_items}
use Rattle.indexset_spine.proofs.EditSteps.{put_writes}
use Rattle.indexset_index.proofs.CallerLemmas.{count-lengths}
use Rattle.indexset_spine.proofs.IndexLemmas.{lengths-more}
use Rattle.indexset_spine.proofs.spine.insert.insert_in_room.Goals as goal

pub add-requires-clause-inside : goal.add-requires-clause-inside
add-requires-clause-inside g c = rw c.requires.index (omega (arith, c.requires.spot.node_in, count-lengths (vec_items c.args.nodes.now.items)))

pub returns-clause-nodes : goal.returns-clause-nodes
returns-clause-nodes g c = put_writes _ c.args.to _ _ c.args.value c.requires.spot.node_in c.index_mut.ensures.value c.insert_item.ensures.items

pub returns-clause-index : goal.returns-clause-index
returns-clause-index g c =
    let put = put_writes _ c.args.to _ _ c.args.value c.requires.spot.node_in c.index_mut.ensures.value c.insert_item.ensures.items in
    let k = c.args.to.node in
    c.add.ensures.lengths
    ∙ (ap (λ ls. slice_set ls k (get_or ls k 0 + 1)) c.requires.index
    ∙ sym (ap (λ (ns : List (List g.row.T.Denot)). node_lengths ns) put ∙ lengths-more (vec_items c.args.nodes.now.items) c.args.to c.args.value c.requires.spot))
