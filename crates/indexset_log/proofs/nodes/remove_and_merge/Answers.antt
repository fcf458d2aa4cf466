use Rattle.std.proofs.Common.{◌≡◌, ◌+◌, ◌<◌, ◌⊎◌, ℕ, length, map, set, sum, insert, remove, inl, inr, refl, ap, sym, ◌∙◌, subst, arith}
use Rattle.std.proofs.Math.Seq.{map-set_same}
use Rattle.std.proofs.lemmas.List.{length-map}
use Rattle.std.proofs.lemmas.List.Edits.{length-remove}
use Rattle.std.proofs.lemmas.List.Sums.{sum_by-insert}
use Rattle.indexset_core.specs.Nodes.{node_at, node_lengths}
use Rattle.indexset_core.specs.Order.{IsAscending}
use Rattle.indexset_core.proofs.CallerLemmas.{on_err}
use Rattle.indexset_events.proofs.CallerLemmas.{first_list, left_joined, map_remove, next_list, node_is, right_joined, two_seen}
use Rattle.indexset_index.proofs.CallerLemmas.{block_there, both, both_inside, emptied, fewer, gathered, node_in_block, sum-blocks}
use Rattle.indexset_log.proofs.IndexLemmas.{merged, some_items}
use Rattle.indexset_log.proofs.nodes.remove_and_merge.Given.{Over}
use Rattle.indexset_log.proofs.nodes.remove_and_merge.Goals.{After-as_slice, After-from_residual, then-node-left, else-node-left}
use Rattle.indexset_log.proofs.nodes.remove_and_merge.Goals as goal

-- a node whose reservation failed is unchanged
kept : (g : Over) (c : After-from_residual g) → map g.Node.NodeLike.list (set c.args.nodes.now.items c.args.left c.reserve.new.self) ≡ map g.Node.NodeLike.list c.args.nodes.now.items
kept g c =
    let list = g.Node.NodeLike.list in
    map-set_same list c.args.nodes.now.items c.args.left c.reserve.new.self c.index_mut-first.result.now (c.in_err-reserve.ensures.list ∙ ap list c.index_mut-first.ensures.value)

pub returns-in_err-reserve-clause-unchanged : goal.returns-in_err-reserve-clause-unchanged
returns-in_err-reserve-clause-unchanged g c = on_err _ (kept g c)

pub returns-in_err-reserve-clause-index : goal.returns-in_err-reserve-clause-index
returns-in_err-reserve-clause-index g c = rw (kept g c) c.requires.index

-- a node that is not the first of the two is the second
one_after : (k j : ℕ) → (k ≡ j) ⊎ (k ≡ j + 1) → (k ≡ j → ⊥) → k ≡ j + 1
one_after k j (inl same) ne = absurd (ne same)
one_after k j (inr next) ne = next

pub remove_at-item-requires : goal.remove_at-item-requires
remove_at-item-requires g c =
    let list = g.Node.NodeLike.list in
    let first =
    first_list list c.args.nodes.now.items c.args.left c.requires.place c.index_mut-first.ensures.value
    c.in_ok-reserve.ensures.list c.remove-next.ensures.items c.index_mut-first-2.ensures.value in
    rw first.1 (rw c.if-node-left.true at c.requires.offset)

pub remove_at-item-requires-else-node-left : goal.remove_at-item-requires-else-node-left
remove_at-item-requires-else-node-left g c =
    let list = g.Node.NodeLike.list in
    let next = next_list list c.args.nodes.now.items c.args.left c.requires.place c.index_mut-first.ensures.value c.in_ok-reserve.ensures.list c.remove-next.ensures.value in
    let place = one_after c.args.node c.args.left c.requires.node c.if-node-left.false in
    rw next (rw place at c.requires.offset)

pub reserve-requires : goal.reserve-requires
reserve-requires g c =
    let list = g.Node.NodeLike.list in
    let items = c.args.nodes.now.items in
    let more = node_is list items (map list items) (c.args.left + 1) c.index.result.now refl c.requires.place c.index.ensures in
    let first = node_is list items (map list items) c.args.left c.index_mut-first.result.now refl (omega (arith, c.requires.place)) c.index_mut-first.ensures.value in
    omega (arith, c.requires.most, c.len-more.ensures.value, ap (λ l. length l) more, ap (λ l. length l) first)

pub absorb-requires-clause-room : goal.absorb-requires-clause-room
absorb-requires-clause-room g c =
    let list = g.Node.NodeLike.list in
    let items = c.args.nodes.now.items in
    let j = c.args.left in
    let two = two_seen list c.reserve.new.self items j c.requires.place in
    let first = first_list list items j c.requires.place c.index_mut-first.ensures.value c.in_ok-reserve.ensures.list c.remove-next.ensures.items c.index_mut-first-2.ensures.value in
    let next = next_list list items j c.requires.place c.index_mut-first.ensures.value c.in_ok-reserve.ensures.list c.remove-next.ensures.value in
    let more = node_is list items (map list items) (j + 1) c.index.result.now refl c.requires.place c.index.ensures in
    let room = ap g.Node.NodeLike.room first.0 in
    let long = ap (λ n. length (list n)) first.0 in
    let some = c.in_ok-reserve.ensures.ok in
    let many = c.len-more.ensures.value ∙ ap (λ l. length l) more in
    let other = ap (λ l. length l) next in
    elim c.if-node-left.branch [
      | then-node-left w ↦
          let less = length-remove (list c.index_mut-first-2.result.now) c.args.offset (rw first.1 (rw w.if-node-left.true at c.requires.offset)) in
          let done = ap (λ l. length l) w.remove_at-item.ensures.list in
          rw (w.first-is, w.next-is) (omega (arith, room, long, some, many, other, less, done, w.remove_at-item.ensures.room))
      | else-node-left w ↦
          let place = one_after c.args.node j c.requires.node w.if-node-left.false in
          let less = length-remove (list c.remove-next.result) c.args.offset (rw next (rw place at c.requires.offset)) in
          let done = ap (λ l. length l) w.remove_at-item-else-node-left.ensures.list in
          rw (w.first-is, w.next-is) (omega (arith, room, long, some, many, other, less, done))
    ]

pub absorb-requires-clause-order : goal.absorb-requires-clause-order
absorb-requires-clause-order g c =
    let list = g.Node.NodeLike.list in
    let items = c.args.nodes.now.items in
    let ns = map list items in
    let j = c.args.left in
    let first = first_list list items j c.requires.place c.index_mut-first.ensures.value c.in_ok-reserve.ensures.list c.remove-next.ensures.items c.index_mut-first-2.ensures.value in
    let next = next_list list items j c.requires.place c.index_mut-first.ensures.value c.in_ok-reserve.ensures.list c.remove-next.ensures.value in
    let inside : j + 1 < length ns = rw (length-map items list) c.requires.place in
    elim c.if-node-left.branch [
      | then-node-left w ↦
          let made = left_joined ns j inside c.args.node c.args.offset w.if-node-left.true (w.remove_at-item.ensures.list ∙ ap (λ l. remove l c.args.offset) first.1) next in
          rw (w.first-is, w.next-is) (subst (IsAscending g.T.Ord.cmp) (sym made) c.requires.order)
      | else-node-left w ↦
          let place = one_after c.args.node j c.requires.node w.if-node-left.false in
          let made = right_joined ns j inside c.args.node c.args.offset place first.1 (w.remove_at-item-else-node-left.ensures.list ∙ ap (λ l. remove l c.args.offset) next) in
          rw (w.first-is, w.next-is) (subst (IsAscending g.T.Ord.cmp) (sym made) c.requires.order)
    ]

-- the two nodes before the call
seen : (g : Over) (c : After-as_slice g) → map g.Node.NodeLike.list c.as_slice.result.now ≡ remove (map g.Node.NodeLike.list c.args.nodes.now.items) (c.args.left + 1)
seen g c =
    let list = g.Node.NodeLike.list in
    let items = c.args.nodes.now.items in
    let same : map list (set items c.args.left c.reserve.new.self) ≡ map list items =
    map-set_same list items c.args.left c.reserve.new.self c.index_mut-first.result.now
    (c.in_ok-reserve.ensures.list ∙ ap list c.index_mut-first.ensures.value) in
    rw (c.as_slice.ensures.value, c.remove-next.ensures.items) (map_remove list (set items c.args.left c.reserve.new.self) (c.args.left + 1) ∙ ap (λ l. remove l (c.args.left + 1)) same)

-- the number of items in the second
next_long : (g : Over) (c : After-as_slice g) → c.len-more.result ≡ length (node_at (map g.Node.NodeLike.list c.args.nodes.now.items) (c.args.left + 1))
next_long g c =
    let list = g.Node.NodeLike.list in
    let items = c.args.nodes.now.items in
    c.len-more.ensures.value ∙ ap (λ l. length l) (node_is list items (map list items) (c.args.left + 1) c.index.result.now refl c.requires.place c.index.ensures)

pub remove-requires-clause-inside : goal.remove-requires-clause-inside
remove-requires-clause-inside g c =
    let list = g.Node.NodeLike.list in
    let ns = map list c.args.nodes.now.items in
    let inside : c.args.left + 1 < length ns = omega (arith, c.requires.place, length-map c.args.nodes.now.items list) in
    omega (arith, inside, ap (λ l. length l) (seen g c), length-map c.as_slice.result.now list, fewer ns c.args.left inside)

pub remove-requires-clause-before : goal.remove-requires-clause-before
remove-requires-clause-before g c =
    let ns = map g.Node.NodeLike.list c.args.nodes.now.items in
    emptied ns (c.args.left + 1) c.len-more.result (seen g c) c.requires.index (omega (arith, c.requires.place, length-map c.args.nodes.now.items g.Node.NodeLike.list)) (next_long g c)

pub add-requires-clause-inside : goal.add-requires-clause-inside
add-requires-clause-inside g c =
    let list = g.Node.NodeLike.list in
    let ns = map list c.args.nodes.now.items in
    let j = c.args.left in
    let inside : j + 1 < length ns = omega (arith, c.requires.place, length-map c.args.nodes.now.items list) in
    let before = (goal.at.add-requires-clause-inside g c).After-as_slice in
    let gone = rw (seen g before) at c.remove.ensures.sums in
    block_there (remove ns (j + 1)) j gone (omega (arith, fewer ns j inside, inside))

pub add-requires-clause-fits : goal.add-requires-clause-fits
add-requires-clause-fits g c =
    let list = g.Node.NodeLike.list in
    let ns = map list c.args.nodes.now.items in
    let j = c.args.left in
    let inside : j + 1 < length ns = omega (arith, c.requires.place, length-map c.args.nodes.now.items list) in
    let before = (goal.at.add-requires-clause-fits g c).After-as_slice in
    let gone = rw (seen g before) at c.remove.ensures.sums in
    let less = node_lengths (remove ns (j + 1)) in
    let all = emptied ns (j + 1) c.len-more.result refl c.requires.index inside (next_long g before) in
    omega (arith, ap sum gone, sum-blocks less, ap sum all, sum-blocks (insert less (j + 1) c.len-more.result), sum_by-insert (λ x. x) less (j + 1) c.len-more.result, c.recall_bounds.ensures.fits)

pub sub-requires-clause-inside : goal.sub-requires-clause-inside
sub-requires-clause-inside g c =
    let list = g.Node.NodeLike.list in
    let ns = map list c.args.nodes.now.items in
    let j = c.args.left in
    let inside : j + 1 < length ns = omega (arith, c.requires.place, length-map c.args.nodes.now.items list) in
    let before = (goal.at.sub-requires-clause-inside g c).After-as_slice in
    let gone = rw (seen g before) at c.remove.ensures.sums in
    let two = c.add.ensures.sums ∙ gathered ns j inside c.len-more.result gone (next_long g before) in
    block_there (both ns j inside) j two (both_inside ns j inside)

pub sub-requires-clause-enough : goal.sub-requires-clause-enough
sub-requires-clause-enough g c =
    let list = g.Node.NodeLike.list in
    let ns = map list c.args.nodes.now.items in
    let j = c.args.left in
    let inside : j + 1 < length ns = omega (arith, c.requires.place, length-map c.args.nodes.now.items list) in
    let before = (goal.at.sub-requires-clause-enough g c).After-as_slice in
    let gone = rw (seen g before) at c.remove.ensures.sums in
    let two = c.add.ensures.sums ∙ gathered ns j inside c.len-more.result gone (next_long g before) in
    let item = node_at ns c.args.node in
    omega (
      arith,
      node_in_block (both ns j inside) j two (both_inside ns j inside),
      some_items ns j inside c.args.node (remove item c.args.offset) c.requires.node (length-remove item c.args.offset c.requires.offset),
    )

pub returns-clause-nodes : goal.returns-clause-nodes
returns-clause-nodes g c =
    let list = g.Node.NodeLike.list in
    let items = c.args.nodes.now.items in
    let ns = map list items in
    let j = c.args.left in
    let two = two_seen list c.reserve.new.self items j c.requires.place in
    let first = first_list list items j c.requires.place c.index_mut-first.ensures.value c.in_ok-reserve.ensures.list c.remove-next.ensures.items c.index_mut-first-2.ensures.value in
    let next = next_list list items j c.requires.place c.index_mut-first.ensures.value c.in_ok-reserve.ensures.list c.remove-next.ensures.value in
    elim c.if-node-left.branch [
      | then-node-left w ↦
          rw (c.remove-next.ensures.items, w.if-node-left.true)
          (two.first_made c.absorb.new.self (remove (node_at ns j) c.args.offset)
          (c.absorb.ensures.list ∙ rw (w.first-is, w.next-is, w.remove_at-item.ensures.list, first.1, next) refl))
      | else-node-left w ↦
          let place = one_after c.args.node j c.requires.node w.if-node-left.false in
          rw (c.remove-next.ensures.items, place)
          (two.next_made c.absorb.new.self (remove (node_at ns (j + 1)) c.args.offset)
          (c.absorb.ensures.list
          ∙ rw (w.first-is, w.next-is, w.remove_at-item-else-node-left.ensures.list, first.1, next) refl))
    ]

pub returns-clause-index : goal.returns-clause-index
returns-clause-index g c =
    let list = g.Node.NodeLike.list in
    let ns = map list c.args.nodes.now.items in
    let j = c.args.left in
    let inside : j + 1 < length ns = omega (arith, c.requires.place, length-map c.args.nodes.now.items list) in
    let before = (goal.at.returns-clause-index g c).After-as_slice in
    let gone = rw (seen g before) at c.remove.ensures.sums in
    let two = c.add.ensures.sums ∙ gathered ns j inside c.len-more.result gone (next_long g before) in
    let item = node_at ns c.args.node in
    c.sub.ensures.sums ∙ merged ns j inside c.args.node (remove item c.args.offset) c.requires.node (length-remove item c.args.offset c.requires.offset) (returns-clause-nodes g c) two

pub returns-clause-item : goal.returns-clause-item
returns-clause-item g c =
    let list = g.Node.NodeLike.list in
    let items = c.args.nodes.now.items in
    let j = c.args.left in
    let first = first_list list items j c.requires.place c.index_mut-first.ensures.value c.in_ok-reserve.ensures.list c.remove-next.ensures.items c.index_mut-first-2.ensures.value in
    let next = next_list list items j c.requires.place c.index_mut-first.ensures.value c.in_ok-reserve.ensures.list c.remove-next.ensures.value in
    elim c.if-node-left.branch [
      | then-node-left w ↦ rw (w.item-is, w.if-node-left.true) (rw first.1 at w.remove_at-item.ensures.value)
      | else-node-left w ↦ rw (w.item-is, one_after c.args.node j c.requires.node w.if-node-left.false) (rw next at w.remove_at-item-else-node-left.ensures.value)
    ]
