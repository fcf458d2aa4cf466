use Rattle.std.proofs.Common.{List, ◌∙◌, ap, sym, arith, sum, take, length}
use Rattle.indexset_core.specs.Nodes.{node_lengths, vec_items}
use Rattle.indexset_index.proofs.CallerLemmas.{count-lengths}
use Rattle.indexset_spine.proofs.IndexLemmas.{emptied_keeps, emptied_sum}
use Rattle.indexset_spine.proofs.VecNodes.{length-vec_items}
use Rattle.indexset_spine.proofs.spine.remove.drop_indexed_if_empty.Goals as goal

pub rebuild_from-requires-clause-same : goal.rebuild_from-requires-clause-same
rebuild_from-requires-clause-same g c =
    let nodes = ap (λ v. vec_items v) c.as_slice.ensures.value ∙ c.drop_if_empty.ensures.nodes in
    ap (take c.args.k) c.requires.index
    ∙ ((emptied_keeps (vec_items c.args.nodes.now.items) c.args.k c.requires.node).front ∙ sym (ap (λ (ms : List (List g.row.T.Denot)). take c.args.k (node_lengths ms)) nodes))

pub rebuild_from-requires-clause-within : goal.rebuild_from-requires-clause-within
rebuild_from-requires-clause-within g c =
    let keeps = emptied_keeps (vec_items c.args.nodes.now.items) c.args.k c.requires.node in
    let nodes = ap (λ v. vec_items v) c.as_slice.ensures.value ∙ c.drop_if_empty.ensures.nodes in
    omega (arith, keeps.within, ap (λ l. length l) nodes, length-vec_items c.as_slice.result.now)

pub rebuild_from-requires-clause-room : goal.rebuild_from-requires-clause-room
rebuild_from-requires-clause-room g c =
    let ns = vec_items c.args.nodes.now.items in
    let keeps = emptied_keeps ns c.args.k c.requires.node in
    let nodes = ap (λ v. vec_items v) c.as_slice.ensures.value ∙ c.drop_if_empty.ensures.nodes in
    omega (arith, keeps.few, ap (λ l. length l) nodes, length-vec_items c.as_slice.result.now, c.recall_bounds.ensures.within, ap (λ l. length l) c.requires.index, count-lengths ns)

pub rebuild_from-requires-clause-fits : goal.rebuild_from-requires-clause-fits
rebuild_from-requires-clause-fits g c =
    let ns = vec_items c.args.nodes.now.items in
    let nodes = ap (λ v. vec_items v) c.as_slice.ensures.value ∙ c.drop_if_empty.ensures.nodes in
    omega (arith, emptied_sum ns c.args.k c.requires.node, ap (λ l. sum (node_lengths l)) nodes, ap sum c.requires.index, c.recall_bounds.ensures.fits)
