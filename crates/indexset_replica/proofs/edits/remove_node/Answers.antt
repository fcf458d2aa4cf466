use Rattle.std.proofs.Common.{◌≡◌, length, map, ap, ◌∙◌, arith}
use Rattle.std.proofs.lemmas.Result.{err_from_is_err_and}
use Rattle.indexset_core.specs.Nodes.{node_at}
use Rattle.indexset_events.proofs.CallerLemmas.{map_remove}
use Rattle.indexset_index.proofs.CallerLemmas.{emptied}
use Rattle.indexset_replica.proofs.EditLemmas.{absent_remove_node, held, named_inside, remove_node_edit}
use Rattle.indexset_replica.proofs.edits.remove_node.Goals as goal

pub returns-in_err-place-clause-refusal : goal.returns-in_err-place-clause-refusal
returns-in_err-place-clause-refusal g c =
    let p = err_from_is_err_and c.from_residual.result c.from_residual.ensures.1 in
    let absent = rw c.as_slice.ensures.value at c.in_err-place.ensures.absent in
    rw (p.1, absent_remove_node g.T.Ord.cmp _ c.args.name.now absent) (p.2 ∙ c.in_err-place.ensures.refusal)

pub returns-clause-done : goal.returns-clause-done
returns-clause-done g c =
    let named = rw c.as_slice.ensures.value at c.in_ok-place.ensures.named in
    rw (c.remove_item-removed.ensures.items, map_remove (λ v. v.items) c.args.nodes.now.items c.in_ok-place.place) (remove_node_edit g.T.Ord.cmp _ c.args.name.now c.in_ok-place.place named)

pub remove_node-requires-clause-before : goal.remove_node-requires-clause-before
remove_node-requires-clause-before g c =
    let vs = c.args.nodes.now.items in
    let ns = map (λ v. v.items) vs in
    let p = c.in_ok-place.place in
    let named = rw c.as_slice.ensures.value at c.in_ok-place.ensures.named in
    let n = c.remove_item-removed.result in
    let long : c.len.result ≡ length (node_at ns p) = omega (
      arith,
      c.len.ensures,
      n.ok.0,
      ap (λ l. length l) (held g.T.Ord.cmp (λ v. v.items) vs c.args.name.now p named n c.remove_item-removed.ensures.value),
    ) in
    emptied ns p c.len.result
    (rw (c.as_slice-2.ensures.value, c.remove_item-removed.ensures.items) (map_remove (λ v. v.items) vs p))
    c.requires.lengths (named_inside g.T.Ord.cmp ns c.args.name.now p named) long
