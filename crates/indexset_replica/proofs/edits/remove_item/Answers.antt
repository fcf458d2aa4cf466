use Rattle.std.proofs.Common.{◌≡◌, ◌-◌, ◌<◌, length, map, refl, ap, arith, sym, ◌∙◌}
use Rattle.std.proofs.lemmas.List.{map-set}
use Rattle.std.proofs.lemmas.List.Edits.{length-remove}
use Rattle.indexset_core.specs.Nodes.{node_at}
use Rattle.indexset_index.proofs.CallerLemmas.{block_there, lowered, node_in_block}
use Rattle.std.proofs.lemmas.Result.{err_from_is_err_and}
use Rattle.indexset_replica.proofs.EditLemmas.{absent_remove, held, named_inside, remove_differs, remove_edit, remove_empty, remove_outside}
use Rattle.indexset_replica.proofs.edits.remove_item.Goals as goal

pub returns-in_err-place-clause-refusal : goal.returns-in_err-place-clause-refusal
returns-in_err-place-clause-refusal g c =
    let p = err_from_is_err_and c.from_residual.result c.from_residual.ensures.1 in
    let absent = rw c.as_slice.ensures.value at c.in_err-place.ensures.absent in
    rw (p.1, absent_remove g.T.Ord.cmp _ c.args.name.now absent c.args.value.now c.args.index) (p.2 ∙ c.in_err-place.ensures.refusal)

pub returns-then-index-len-clause-refusal : goal.returns-then-index-len-clause-refusal
returns-then-index-len-clause-refusal g c =
    let named = rw c.as_slice.ensures.value at c.in_ok-place.ensures.named in
    let n = c.index_mut-node.result.now in
    rw
    (remove_outside g.T.Ord.cmp (λ v. v.items) c.args.nodes.now.items c.args.name.now c.in_ok-place.place named n
    c.index_mut-node.ensures.value c.args.value.now c.args.index (omega (arith, n.ok.0)))
    refl

pub returns-then-is_ne-clause-refusal : goal.returns-then-is_ne-clause-refusal
returns-then-is_ne-clause-refusal g c =
    let named = rw c.as_slice.ensures.value at c.in_ok-place.ensures.named in
    let n = c.index_mut-node.result.now in
    let inside : c.args.index < length n.items = omega (arith, n.ok.0) in
    let other = rw c.cmp.ensures at (sym c.is_ne.ensures ∙ c.if-is_ne.true) in
    rw
    (remove_differs g.T.Ord.cmp (λ v. v.items) c.args.nodes.now.items c.args.name.now c.in_ok-place.place named n
    c.index_mut-node.ensures.value c.args.value.now c.args.index inside c.index.result.now c.index.ensures other)
    refl

pub returns-then-len-eq1-clause-refusal : goal.returns-then-len-eq1-clause-refusal
returns-then-len-eq1-clause-refusal g c =
    let named = rw c.as_slice.ensures.value at c.in_ok-place.ensures.named in
    let n = c.index_mut-node.result.now in
    let inside : c.args.index < length n.items = omega (arith, n.ok.0) in
    let same = rw c.cmp.ensures at (sym c.is_ne.ensures ∙ c.if-is_ne.false) in
    rw
    (remove_empty g.T.Ord.cmp (λ v. v.items) c.args.nodes.now.items c.args.name.now c.in_ok-place.place named n
    c.index_mut-node.ensures.value c.args.value.now c.args.index inside c.index.result.now c.index.ensures same
    (omega (arith, n.ok.0)))
    refl

pub returns-clause-done : goal.returns-clause-done
returns-clause-done g c =
    let named = rw c.as_slice.ensures.value at c.in_ok-place.ensures.named in
    let n = c.index_mut-node.result.now in
    let inside : c.args.index < length n.items = omega (arith, n.ok.0) in
    let same = rw c.cmp.ensures at (sym c.is_ne.ensures ∙ c.if-is_ne.false) in
    rw (map-set (λ v. v.items) c.args.nodes.now.items c.in_ok-place.place c.remove_item.new.items, c.remove_item.ensures.items)
    (remove_edit g.T.Ord.cmp (λ v. v.items) c.args.nodes.now.items c.args.name.now c.in_ok-place.place named n
    c.index_mut-node.ensures.value c.args.value.now c.args.index inside c.index.result.now c.index.ensures same
    (λ one. omega (arith, n.ok.0, one)))

pub returns-clause-lengths : goal.returns-clause-lengths
returns-clause-lengths g c =
    let cmp = g.T.Ord.cmp in
    let vs = c.args.nodes.now.items in
    let ns = map (λ v. v.items) vs in
    let k = c.in_ok-place.place in
    let named = rw c.as_slice.ensures.value at c.in_ok-place.ensures.named in
    let inside : k < length ns = named_inside cmp ns c.args.name.now k named in
    let n = c.index_mut-node.result.now in
    let here : node_at ns k ≡ n.items = held cmp (λ v. v.items) vs c.args.name.now k named n c.index_mut-node.ensures.value in
    let less : length c.remove_item.new.items.items ≡ length (node_at ns k) - 1 =
    omega (arith, ap (λ l. length l) c.remove_item.ensures.items, length-remove n.items c.args.index (omega (arith, n.ok.0)), ap (λ l. length l) here) in
    rw (map-set (λ v. v.items) vs k c.remove_item.new.items)
    (c.take_items.ensures.sums ∙ lowered ns k c.requires.lengths inside c.remove_item.new.items.items 1 (omega (arith, n.ok.0, ap (λ l. length l) here)) less)

pub take_items-requires-clause-inside : goal.take_items-requires-clause-inside
take_items-requires-clause-inside g c =
    let ns = map (λ v. v.items) c.args.nodes.now.items in
    let named = rw c.as_slice.ensures.value at c.in_ok-place.ensures.named in
    block_there ns c.in_ok-place.place c.requires.lengths (named_inside g.T.Ord.cmp ns c.args.name.now c.in_ok-place.place named)

pub take_items-requires-clause-enough : goal.take_items-requires-clause-enough
take_items-requires-clause-enough g c =
    let cmp = g.T.Ord.cmp in
    let vs = c.args.nodes.now.items in
    let ns = map (λ v. v.items) vs in
    let k = c.in_ok-place.place in
    let named = rw c.as_slice.ensures.value at c.in_ok-place.ensures.named in
    let n = c.index_mut-node.result.now in
    let here : node_at ns k ≡ n.items = held cmp (λ v. v.items) vs c.args.name.now k named n c.index_mut-node.ensures.value in
    omega (arith, n.ok.0, ap (λ l. length l) here, node_in_block ns k c.requires.lengths (named_inside cmp ns c.args.name.now k named))
