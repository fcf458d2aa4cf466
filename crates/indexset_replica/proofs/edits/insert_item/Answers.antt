use Rattle.std.proofs.Common.{◌≡◌, ◌+◌, ◌<◌, length, map, set, insert, refl, arith, sym, ap, ◌∙◌}
use Rattle.std.proofs.lemmas.List.{map-set}
use Rattle.std.proofs.lemmas.List.Edits.{length-insert}
use Rattle.indexset_core.specs.Nodes.{node_at, node_lengths}
use Rattle.indexset_index.specs.Blocks.{block_sums}
use Rattle.indexset_index.proofs.CallerLemmas.{block_there, raised}
use Rattle.std.proofs.Math.Seq.{map-set_same}
use Rattle.std.proofs.lemmas.Result.{err_from_is_err_and}
use Rattle.indexset_events.specs.declared.change.ChangeEventUnassigned.TheVariants.{InsertAt}
use Rattle.indexset_replica.specs.Replica.{IsEdit}
use Rattle.indexset_events.proofs.CallerLemmas.{nodes_ruled}
use Rattle.indexset_replica.proofs.CloneLemmas.{inserted_same}
use Rattle.indexset_replica.proofs.EditLemmas.{absent_insert, held, insert_disorder, insert_edit, insert_outside, named_inside}
use Rattle.indexset_replica.proofs.edits.insert_item.Given.{Over}
use Rattle.indexset_replica.proofs.edits.insert_item.Goals as goal
use Rattle.indexset_replica.proofs.edits.insert_item.Goals.{Else-not-fits_at}

-- the nodes after the insertion
inserted : (g : Over) (c : Else-not-fits_at g) → let ns = map (λ v. v.items) c.args.nodes.now.items in
    let v = c.args.value.now in let i = c.args.index in
    IsEdit g.T.Ord.cmp ns (InsertAt c.args.name.now v i)
    (set ns c.in_ok-place.place (insert c.index.result.now.items i v))
inserted g c =
    let named = rw c.as_slice.ensures.value at c.in_ok-place.ensures.named in
    let n = c.index.result.now in
    let good = rw c.as_slice-2.ensures.value at (sym c.fits_at.ensures ∙ c.if-not-fits_at.false) in
    insert_edit g.T.Ord.cmp (λ v. v.items) c.args.nodes.now.items c.args.name.now c.in_ok-place.place named n c.index.ensures c.args.value.now c.args.index (omega (arith, n.ok.0)) good

pub returns-in_err-place-clause-refusal : goal.returns-in_err-place-clause-refusal
returns-in_err-place-clause-refusal g c =
    let p = err_from_is_err_and c.from_residual.result c.from_residual.ensures.1 in
    let absent = rw c.as_slice.ensures.value at c.in_err-place.ensures.absent in
    rw (p.1, absent_insert g.T.Ord.cmp _ c.args.name.now absent c.args.value.now c.args.index) (p.2 ∙ c.in_err-place.ensures.refusal)

pub returns-then-index-len-clause-refusal : goal.returns-then-index-len-clause-refusal
returns-then-index-len-clause-refusal g c =
    let named = rw c.as_slice.ensures.value at c.in_ok-place.ensures.named in
    let n = c.index.result.now in
    rw (insert_outside g.T.Ord.cmp (λ v. v.items) c.args.nodes.now.items c.args.name.now c.in_ok-place.place named n c.index.ensures c.args.value.now c.args.index (omega (arith, n.ok.0))) refl

pub returns-then-not-fits_at-clause-refusal : goal.returns-then-not-fits_at-clause-refusal
returns-then-not-fits_at-clause-refusal g c =
    let named = rw c.as_slice.ensures.value at c.in_ok-place.ensures.named in
    let n = c.index.result.now in
    let bad = rw c.as_slice-2.ensures.value at (sym c.fits_at.ensures ∙ c.if-not-fits_at.true) in
    rw (insert_disorder g.T.Ord.cmp (λ v. v.items) c.args.nodes.now.items c.args.name.now c.in_ok-place.place named n c.index.ensures c.args.value.now c.args.index (omega (arith, n.ok.0)) bad) refl

pub returns-in_err-fits-clause-refusal : goal.returns-in_err-fits-clause-refusal
returns-in_err-fits-clause-refusal g c =
    let p = err_from_is_err_and c.from_residual-in_err-fits.result c.from_residual-in_err-fits.ensures.1 in
    rw (p.1, (inserted g (goal.at.returns-in_err-fits-clause-refusal g c).Else-not-fits_at).fits) (p.2 ∙ c.in_err-fits.ensures.refusal)

pub returns-in_err-item-clause-refusal : goal.returns-in_err-item-clause-refusal
returns-in_err-item-clause-refusal g c =
    let p = err_from_is_err_and c.from_residual-in_err-item.result c.from_residual-in_err-item.ensures.1 in
    rw (p.1, (inserted g (goal.at.returns-in_err-item-clause-refusal g c).Else-not-fits_at).fits) (p.2 ∙ c.in_err-item.ensures.refusal)

pub returns-in_err-reserve-clause-refusal : goal.returns-in_err-reserve-clause-refusal
returns-in_err-reserve-clause-refusal g c =
    let p = err_from_is_err_and c.from_residual-in_err-reserve.result c.from_residual-in_err-reserve.ensures.1 in
    rw (p.1, (inserted g (goal.at.returns-in_err-reserve-clause-refusal g c).Else-not-fits_at).fits) p.2

pub returns-in_err-reserve-clause-unchanged : goal.returns-in_err-reserve-clause-unchanged
returns-in_err-reserve-clause-unchanged g c =
    let p = err_from_is_err_and c.from_residual-in_err-reserve.result c.from_residual-in_err-reserve.ensures.1 in
    let m = c.index_mut-node.result.now in
    rw p.1 (map-set_same (λ v. v.items) c.args.nodes.now.items c.in_ok-place.place c.reserve.new.self m (c.in_err-reserve.ensures.items ∙ ap (λ v. v.items) c.index_mut-node.ensures.value))

pub returns-clause-done : goal.returns-clause-done
returns-clause-done g c =
    let cmp = g.T.Ord.cmp in
    let vs = c.args.nodes.now.items in
    let ns = map (λ v. v.items) vs in
    let k = c.in_ok-place.place in
    let named = rw c.as_slice.ensures.value at c.in_ok-place.ensures.named in
    let n = c.index.result.now in
    let m = c.index_mut-node.result.now in
    let same : m.items ≡ n.items = sym (held cmp (λ v. v.items) vs c.args.name.now k named m c.index_mut-node.ensures.value) ∙ held cmp (λ v. v.items) vs c.args.name.now k named n c.index.ensures in
    let copy = c.in_ok-item.ensures.clone in
    let w = c.in_ok-item.item in
    let good = rw c.as_slice-2.ensures.value at (sym c.fits_at.ensures ∙ c.if-not-fits_at.false) in
    let fine = inserted_same cmp g.met.T.Ord.total c.args.value.now w copy.1 ns (nodes_ruled cmp ns c.requires.nodes) k (named_inside cmp ns c.args.name.now k named) c.args.index ∙ good in
    let edited = insert_edit cmp (λ v. v.items) vs c.args.name.now k named n c.index.ensures w c.args.index (omega (arith, n.ok.0)) fine in
    rw (map-set (λ v. v.items) vs k c.insert_item.new.items, c.insert_item.ensures.items, c.in_ok-reserve.ensures.items, same)
    (record { fits = (inserted g (goal.at.returns-clause-done g c).Else-not-fits_at).fits; event = InsertAt c.args.name.now w c.args.index; adds = (w, copy, refl); done = edited })

pub returns-in_err-reserve-clause-lengths : goal.returns-in_err-reserve-clause-lengths
returns-in_err-reserve-clause-lengths g c =
    let m = c.index_mut-node.result.now in
    c.requires.lengths
    ∙ ap (λ l. block_sums (node_lengths l))
    (sym
    (map-set_same (λ v. v.items) c.args.nodes.now.items c.in_ok-place.place c.reserve.new.self m
    (c.in_err-reserve.ensures.items ∙ ap (λ v. v.items) c.index_mut-node.ensures.value)))

pub returns-clause-lengths : goal.returns-clause-lengths
returns-clause-lengths g c =
    let cmp = g.T.Ord.cmp in
    let vs = c.args.nodes.now.items in
    let ns = map (λ v. v.items) vs in
    let k = c.in_ok-place.place in
    let named = rw c.as_slice.ensures.value at c.in_ok-place.ensures.named in
    let inside : k < length ns = named_inside cmp ns c.args.name.now k named in
    let n = c.index.result.now in
    let m = c.index_mut-node.result.now in
    let here : node_at ns k ≡ n.items = held cmp (λ v. v.items) vs c.args.name.now k named n c.index.ensures in
    let long : length c.reserve.new.self.items ≡ length n.items =
    ap (λ l. length l)
    (c.in_ok-reserve.ensures.items
    ∙ (sym (held cmp (λ v. v.items) vs c.args.name.now k named m c.index_mut-node.ensures.value) ∙ here)) in
    let more : length c.insert_item.new.items.items ≡ length (node_at ns k) + 1 =
    omega (arith, ap (λ l. length l) c.insert_item.ensures.items, length-insert c.reserve.new.self.items c.args.index c.in_ok-item.item (omega (arith, long, n.ok.0)), long, ap (λ l. length l) here) in
    rw (map-set (λ v. v.items) vs k c.insert_item.new.items)
    (c.add_items.ensures.sums ∙ raised ns k c.requires.lengths inside c.insert_item.new.items.items 1 more)

pub add_items-requires-clause-inside : goal.add_items-requires-clause-inside
add_items-requires-clause-inside g c =
    let ns = map (λ v. v.items) c.args.nodes.now.items in
    let named = rw c.as_slice.ensures.value at c.in_ok-place.ensures.named in
    block_there ns c.in_ok-place.place c.requires.lengths (named_inside g.T.Ord.cmp ns c.args.name.now c.in_ok-place.place named)
