use Rattle.std.proofs.Common.{◌≡◌, ◌+◌, ◌<◌, [], length, map, set, sum, insert, remove, refl, arith, ap, sym, ◌∙◌}
use Rattle.std.proofs.lemmas.List.{length-map, set-get_or}
use Rattle.std.proofs.lemmas.Result.{err_from_is_err_and}
use Rattle.std.proofs.Math.Seq.{map-set_same}
use Rattle.indexset_core.specs.Nodes.{node_at, node_lengths}
use Rattle.indexset_events.specs.Merging.{with_merged}
use Rattle.indexset_events.specs.declared.change.ChangeEventUnassigned.TheVariants.{MergeNodes}
use Rattle.indexset_events.proofs.CallerLemmas.{first_list, map_remove, next_list, two_seen}
use Rattle.indexset_replica.specs.Replica.{IsEdit}
use Rattle.indexset_index.specs.Blocks.{block_sums}
use Rattle.std.proofs.lemmas.List.Sums.{sum_by-insert}
use Rattle.indexset_index.proofs.CallerLemmas.{block_there, emptied, fewer, gathered, sum-blocks}
use Rattle.indexset_replica.proofs.IndexLemmas.{merged_lengths}
use Rattle.indexset_replica.proofs.EditLemmas.{absent_first, absent_next, held, held_inside, merge_apart, merge_edit, named_inside}
use Rattle.indexset_replica.proofs.edits.merge_nodes.Given.{Over}
use Rattle.indexset_replica.proofs.edits.merge_nodes.Goals as goal
use Rattle.indexset_replica.proofs.edits.merge_nodes.Goals.{After-reserve}

-- the nodes after the merge
merged : (g : Over) (c : After-reserve g) → let ns = map (λ v. v.items) c.args.nodes.now.items in
    IsEdit g.T.Ord.cmp ns (MergeNodes c.args.name.now c.args.next_name.now) (with_merged ns c.in_ok-place.place)
merged g c =
    let named = rw c.as_slice.ensures.value at c.in_ok-place.ensures.named in
    let next = rw c.as_slice-2.ensures.value at c.in_ok-next.ensures.named in
    merge_edit g.T.Ord.cmp _ c.args.name.now c.in_ok-place.place named c.args.next_name.now c.in_ok-next.next next c.if-next-place.false

pub returns-in_err-place-clause-refusal : goal.returns-in_err-place-clause-refusal
returns-in_err-place-clause-refusal g c =
    let p = err_from_is_err_and c.from_residual.result c.from_residual.ensures.1 in
    let absent = rw c.as_slice.ensures.value at c.in_err-place.ensures.absent in
    rw (p.1, absent_first g.T.Ord.cmp _ c.args.name.now absent c.args.next_name.now) (p.2 ∙ c.in_err-place.ensures.refusal)

pub returns-in_err-next-clause-refusal : goal.returns-in_err-next-clause-refusal
returns-in_err-next-clause-refusal g c =
    let p = err_from_is_err_and c.from_residual-in_err-next.result c.from_residual-in_err-next.ensures.1 in
    let named = rw c.as_slice.ensures.value at c.in_ok-place.ensures.named in
    let absent = rw c.as_slice-2.ensures.value at c.in_err-next.ensures.absent in
    rw (p.1, absent_next g.T.Ord.cmp _ c.args.name.now c.in_ok-place.place named c.args.next_name.now absent) (p.2 ∙ c.in_err-next.ensures.refusal)

pub returns-then-next-place-clause-refusal : goal.returns-then-next-place-clause-refusal
returns-then-next-place-clause-refusal g c =
    let named = rw c.as_slice.ensures.value at c.in_ok-place.ensures.named in
    let next = rw c.as_slice-2.ensures.value at c.in_ok-next.ensures.named in
    rw (merge_apart g.T.Ord.cmp _ c.args.name.now c.in_ok-place.place named c.args.next_name.now c.in_ok-next.next next c.if-next-place.true) refl

pub returns-in_err-reserve-clause-refusal : goal.returns-in_err-reserve-clause-refusal
returns-in_err-reserve-clause-refusal g c =
    let p = err_from_is_err_and c.from_residual-in_err-reserve.result c.from_residual-in_err-reserve.ensures.1 in
    rw (p.1, (merged g (goal.at.returns-in_err-reserve-clause-refusal g c).After-reserve).fits) p.2

pub returns-in_err-reserve-clause-unchanged : goal.returns-in_err-reserve-clause-unchanged
returns-in_err-reserve-clause-unchanged g c =
    let p = err_from_is_err_and c.from_residual-in_err-reserve.result c.from_residual-in_err-reserve.ensures.1 in
    let m = c.index_mut-node.result.now in
    rw p.1 (map-set_same (λ v. v.items) c.args.nodes.now.items c.in_ok-place.place c.reserve.new.self m (c.in_err-reserve.ensures.items ∙ ap (λ v. v.items) c.index_mut-node.ensures.value))

pub returns-clause-done : goal.returns-clause-done
returns-clause-done g c =
    let vs = c.args.nodes.now.items in
    let ns = map (λ v. v.items) vs in
    let p = c.in_ok-place.place in
    let next = rw c.as_slice-2.ensures.value at c.in_ok-next.ensures.named in
    let follows : c.in_ok-next.next ≡ p + 1 = c.if-next-place.false in
    let inside : p + 1 < length vs = omega (arith, follows, held_inside g.T.Ord.cmp (λ v. v.items) vs c.args.next_name.now c.in_ok-next.next next) in
    let gone = rw follows at c.remove_item-rest.ensures.items in
    let first = first_list (λ v. v.items) vs p inside c.index_mut-node.ensures.value c.in_ok-reserve.ensures.items gone c.index_mut.ensures.value in
    let rest = next_list (λ v. v.items) vs p inside c.index_mut-node.ensures.value c.in_ok-reserve.ensures.items (rw follows at c.remove_item-rest.ensures.value) in
    let two = two_seen (λ v. v.items) c.reserve.new.self vs p inside in
    let made = two.first_made c.move_tail.new.other (node_at ns p) (c.move_tail.ensures.moved ∙ rw (first.1, rest) refl) in
    rw (gone, made, set-get_or ns p []) (merged g (goal.at.returns-clause-done g c).After-reserve)

pub returns-in_err-reserve-clause-lengths : goal.returns-in_err-reserve-clause-lengths
returns-in_err-reserve-clause-lengths g c =
    let m = c.index_mut-node.result.now in
    c.requires.lengths
    ∙ ap (λ l. block_sums (node_lengths l))
    (sym
    (map-set_same (λ v. v.items) c.args.nodes.now.items c.in_ok-place.place c.reserve.new.self m
    (c.in_err-reserve.ensures.items ∙ ap (λ v. v.items) c.index_mut-node.ensures.value)))

pub remove_node-requires-clause-before : goal.remove_node-requires-clause-before
remove_node-requires-clause-before g c =
    let cmp = g.T.Ord.cmp in
    let vs = c.args.nodes.now.items in
    let ns = map (λ v. v.items) vs in
    let p = c.in_ok-place.place in
    let next = rw c.as_slice-2.ensures.value at c.in_ok-next.ensures.named in
    let follows : c.in_ok-next.next ≡ p + 1 = c.if-next-place.false in
    let inside : p + 1 < length ns = omega (arith, follows, named_inside cmp ns c.args.next_name.now c.in_ok-next.next next) in
    let long : c.len-count.result ≡ length (node_at ns (p + 1)) = omega (
      arith,
      c.len-count.ensures,
      c.index.result.now.ok.0,
      ap (λ l. length l) (rw follows at (held cmp (λ v. v.items) vs c.args.next_name.now c.in_ok-next.next next c.index.result.now c.index.ensures)),
    ) in
    let same : map (λ v. v.items) (set vs p c.reserve.new.self) ≡ ns =
    map-set_same (λ v. v.items) vs p c.reserve.new.self c.index_mut-node.result.now
    (c.in_ok-reserve.ensures.items ∙ ap (λ v. v.items) c.index_mut-node.ensures.value) in
    let seen : map (λ v. v.items) c.as_slice-3.result.now ≡ remove ns (p + 1) =
    rw (c.as_slice-3.ensures.value, c.remove_item-rest.ensures.items, follows)
    (map_remove (λ v. v.items) (set vs p c.reserve.new.self) (p + 1) ∙ ap (λ l. remove l (p + 1)) same) in
    rw follows (emptied ns (p + 1) c.len-count.result seen c.requires.lengths inside long)

pub add_items-requires-clause-inside : goal.add_items-requires-clause-inside
add_items-requires-clause-inside g c =
    let cmp = g.T.Ord.cmp in
    let vs = c.args.nodes.now.items in
    let ns = map (λ v. v.items) vs in
    let p = c.in_ok-place.place in
    let next = rw c.as_slice-2.ensures.value at c.in_ok-next.ensures.named in
    let follows : c.in_ok-next.next ≡ p + 1 = c.if-next-place.false in
    let inside : p + 1 < length ns = omega (arith, follows, named_inside cmp ns c.args.next_name.now c.in_ok-next.next next) in
    let long : c.len-count.result ≡ length (node_at ns (p + 1)) = omega (
      arith,
      c.len-count.ensures,
      c.index.result.now.ok.0,
      ap (λ l. length l) (rw follows at (held cmp (λ v. v.items) vs c.args.next_name.now c.in_ok-next.next next c.index.result.now c.index.ensures)),
    ) in
    let same : map (λ v. v.items) (set vs p c.reserve.new.self) ≡ ns =
    map-set_same (λ v. v.items) vs p c.reserve.new.self c.index_mut-node.result.now
    (c.in_ok-reserve.ensures.items ∙ ap (λ v. v.items) c.index_mut-node.ensures.value) in
    let seen : map (λ v. v.items) c.as_slice-3.result.now ≡ remove ns (p + 1) =
    rw (c.as_slice-3.ensures.value, c.remove_item-rest.ensures.items, follows)
    (map_remove (λ v. v.items) (set vs p c.reserve.new.self) (p + 1) ∙ ap (λ l. remove l (p + 1)) same) in
    let gone : c.remove_node.new.self.sums ≡ block_sums (node_lengths (remove ns (p + 1))) = c.remove_node.ensures ∙ ap (λ l. block_sums (node_lengths l)) seen in
    block_there (remove ns (p + 1)) p gone (omega (arith, fewer ns p inside, inside))

pub add_items-requires-clause-fits : goal.add_items-requires-clause-fits
add_items-requires-clause-fits g c =
    let cmp = g.T.Ord.cmp in
    let vs = c.args.nodes.now.items in
    let ns = map (λ v. v.items) vs in
    let p = c.in_ok-place.place in
    let next = rw c.as_slice-2.ensures.value at c.in_ok-next.ensures.named in
    let follows : c.in_ok-next.next ≡ p + 1 = c.if-next-place.false in
    let inside : p + 1 < length ns = omega (arith, follows, named_inside cmp ns c.args.next_name.now c.in_ok-next.next next) in
    let long : c.len-count.result ≡ length (node_at ns (p + 1)) = omega (
      arith,
      c.len-count.ensures,
      c.index.result.now.ok.0,
      ap (λ l. length l) (rw follows at (held cmp (λ v. v.items) vs c.args.next_name.now c.in_ok-next.next next c.index.result.now c.index.ensures)),
    ) in
    let same : map (λ v. v.items) (set vs p c.reserve.new.self) ≡ ns =
    map-set_same (λ v. v.items) vs p c.reserve.new.self c.index_mut-node.result.now
    (c.in_ok-reserve.ensures.items ∙ ap (λ v. v.items) c.index_mut-node.ensures.value) in
    let seen : map (λ v. v.items) c.as_slice-3.result.now ≡ remove ns (p + 1) =
    rw (c.as_slice-3.ensures.value, c.remove_item-rest.ensures.items, follows)
    (map_remove (λ v. v.items) (set vs p c.reserve.new.self) (p + 1) ∙ ap (λ l. remove l (p + 1)) same) in
    let gone : c.remove_node.new.self.sums ≡ block_sums (node_lengths (remove ns (p + 1))) = c.remove_node.ensures ∙ ap (λ l. block_sums (node_lengths l)) seen in
    let less = node_lengths (remove ns (p + 1)) in
    let all = emptied ns (p + 1) c.len-count.result refl c.requires.lengths inside long in
    omega (
      arith,
      ap sum gone,
      sum-blocks less,
      ap sum all,
      sum-blocks (insert less (p + 1) c.len-count.result),
      sum_by-insert (λ x. x) less (p + 1) c.len-count.result,
      c.total-total.ensures,
      c.total-total.type_inv,
    )

pub returns-clause-lengths : goal.returns-clause-lengths
returns-clause-lengths g c =
    let cmp = g.T.Ord.cmp in
    let vs = c.args.nodes.now.items in
    let ns = map (λ v. v.items) vs in
    let p = c.in_ok-place.place in
    let next = rw c.as_slice-2.ensures.value at c.in_ok-next.ensures.named in
    let follows : c.in_ok-next.next ≡ p + 1 = c.if-next-place.false in
    let inside : p + 1 < length ns = omega (arith, follows, named_inside cmp ns c.args.next_name.now c.in_ok-next.next next) in
    let long : c.len-count.result ≡ length (node_at ns (p + 1)) = omega (
      arith,
      c.len-count.ensures,
      c.index.result.now.ok.0,
      ap (λ l. length l) (rw follows at (held cmp (λ v. v.items) vs c.args.next_name.now c.in_ok-next.next next c.index.result.now c.index.ensures)),
    ) in
    let same : map (λ v. v.items) (set vs p c.reserve.new.self) ≡ ns =
    map-set_same (λ v. v.items) vs p c.reserve.new.self c.index_mut-node.result.now
    (c.in_ok-reserve.ensures.items ∙ ap (λ v. v.items) c.index_mut-node.ensures.value) in
    let seen : map (λ v. v.items) c.as_slice-3.result.now ≡ remove ns (p + 1) =
    rw (c.as_slice-3.ensures.value, c.remove_item-rest.ensures.items, follows)
    (map_remove (λ v. v.items) (set vs p c.reserve.new.self) (p + 1) ∙ ap (λ l. remove l (p + 1)) same) in
    let gone : c.remove_node.new.self.sums ≡ block_sums (node_lengths (remove ns (p + 1))) = c.remove_node.ensures ∙ ap (λ l. block_sums (node_lengths l)) seen in
    let within : p + 1 < length vs = omega (arith, inside, length-map vs (λ v. v.items)) in
    let rest = rw follows at c.remove_item-rest.ensures.items in
    let first = first_list (λ v. v.items) vs p within c.index_mut-node.ensures.value c.in_ok-reserve.ensures.items rest c.index_mut.ensures.value in
    let second = next_list (λ v. v.items) vs p within c.index_mut-node.ensures.value c.in_ok-reserve.ensures.items (rw follows at c.remove_item-rest.ensures.value) in
    let two = two_seen (λ v. v.items) c.reserve.new.self vs p within in
    let made = two.first_made c.move_tail.new.other (node_at ns p) (c.move_tail.ensures.moved ∙ rw (first.1, second) refl) in
    c.add_items.ensures.sums ∙ (gathered ns p inside c.len-count.result gone long ∙ ap block_sums (merged_lengths ns p inside ∙ rw (rest, made, set-get_or ns p []) refl))
