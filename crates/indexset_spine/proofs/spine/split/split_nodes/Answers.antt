use Rattle.std.proofs.Common.{◌∙◌, ap, arith, length, length-append, length-set, length-take, slice_set, drop, [], ◌∷◌, ◌+◌}
use Rattle.indexset_core.specs.Nodes.{vec_items}
use Rattle.indexset_spine.specs.Edits.{without_emptied, left_nodes, right_nodes}
use Rattle.indexset_core.proofs.CallerLemmas.{on_err}
use Rattle.indexset_spine.proofs.EditSteps.{lists_kept, node_is}
use Rattle.indexset_spine.proofs.VecNodes.{length-vec_items}
use Rattle.indexset_spine.proofs.SplitSteps.{left_lists, right_lists}
use Rattle.indexset_spine.proofs.spine.split.split_nodes.Goals as goal

pub returns-in_err-back-clause-unchanged : goal.returns-in_err-back-clause-unchanged
returns-in_err-back-clause-unchanged g c =
    on_err c.from_residual-in_err-back.result (lists_kept c.args.nodes.now.items _ _ c.take_back.new.node c.requires.node_in c.index_mut.ensures.value (c.in_err-back.ensures {u = tt}).unchanged)

pub returns-clause-left : goal.returns-clause-left
unfolding left_nodes
returns-clause-left g c =
    let cut = c.in_ok-back.ensures {u = tt} in let k = c.args.spot.node in
    c.drop_if_empty.ensures.nodes
    ∙ (ap (λ vs. without_emptied (vec_items vs) k) c.move_tail.ensures.left
    ∙ ap (λ ns. without_emptied ns k) (left_lists c.args.nodes.now.items k c.args.spot.offset _ c.take_back.new.node c.in_ok-back.back c.requires.node_in c.index_mut.ensures.value cut.front))

pub returns-clause-right : goal.returns-clause-right
unfolding right_nodes
returns-clause-right g c =
    let cut = c.in_ok-back.ensures {u = tt} in let k = c.args.spot.node in
    c.drop_if_empty-2.ensures.nodes
    ∙ (ap (λ vs. without_emptied (vec_items vs) 0) (rw (c.push_reserved.ensures.items, (c.in_ok-right.ensures {u = tt}).items) at c.move_tail.ensures.moved)
    ∙ ap (λ ns. without_emptied ns 0) (right_lists c.args.nodes.now.items k c.args.spot.offset _ c.take_back.new.node c.in_ok-back.back c.requires.node_in c.index_mut.ensures.value cut.back))

pub index_mut-requires : goal.index_mut-requires
index_mut-requires g c = omega (arith, c.requires.node_in, length-vec_items c.args.nodes.now.items, c.args.nodes.now.ok)

pub take_back-requires : goal.take_back-requires
take_back-requires g c = omega (arith, c.requires.offset_in, ap (λ l. length l) (node_is c.args.nodes.now.items c.args.spot.node c.index_mut.result.now c.requires.node_in c.index_mut.ensures.value))

pub move_tail-requires-clause-within : goal.move_tail-requires-clause-within
move_tail-requires-clause-within g c = omega (arith, c.requires.node_in, length-vec_items c.args.nodes.now.items, length-set c.args.nodes.now.items c.args.spot.node c.take_back.new.node)

pub push_reserved-requires : goal.push_reserved-requires
push_reserved-requires g c = omega (arith, c.in_ok-right.ensures.len, c.in_ok-right.ensures.capacity, c.len.ensures, c.requires.node_in, length-vec_items c.args.nodes.now.items, c.args.nodes.now.ok)

pub move_tail-requires-clause-room : goal.move_tail-requires-clause-room
move_tail-requires-clause-room g c =
    omega (
      arith,
      c.push_reserved.ensures.len,
      c.push_reserved.ensures.capacity,
      c.in_ok-right.ensures.len,
      c.in_ok-right.ensures.capacity,
      c.len.ensures,
      c.requires.node_in,
      length-vec_items c.args.nodes.now.items,
      c.args.nodes.now.ok,
      length-set c.args.nodes.now.items c.args.spot.node c.take_back.new.node,
    )

pub drop_if_empty-requires : goal.drop_if_empty-requires
drop_if_empty-requires g c =
    omega (
      arith,
      length-vec_items c.move_tail.new.items.items,
      ap (λ l. length l) c.move_tail.ensures.left,
      length-take (c.args.spot.node + 1) (slice_set c.args.nodes.now.items c.args.spot.node c.take_back.new.node),
      length-set c.args.nodes.now.items c.args.spot.node c.take_back.new.node,
      c.requires.node_in,
      length-vec_items c.args.nodes.now.items,
    )

pub drop_if_empty-requires-2 : goal.drop_if_empty-requires-2
drop_if_empty-requires-2 g c =
    omega (
      arith,
      length-vec_items c.move_tail.new.other.items,
      ap (λ l. length l) c.move_tail.ensures.moved,
      length-append c.push_reserved.new.self.items (drop (c.args.spot.node + 1) (slice_set c.args.nodes.now.items c.args.spot.node c.take_back.new.node)),
      ap (λ l. length l) c.push_reserved.ensures.items,
      length-append c.in_ok-right.right.items (c.in_ok-back.back ∷ []),
    )
