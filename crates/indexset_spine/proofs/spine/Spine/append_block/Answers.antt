use Rattle.std.proofs.Common.{◌≡◌, ℕ, ◌+◌, ◌<◌, List, ◌++◌, length, take, sum, refl, [], slice_set, get_or, vec_len, vec_capacity, subst, ◌∙◌, ap, sym, arith}
use Rattle.std.specs.declared.vec.Vec.{Vec}
use Rattle.std.proofs.lemmas.List.{length-take-le, length-drop, take-append-drop}
use Rattle.std.specs.List.{fold}
use Rattle.indexset_core.specs.Nodes.{node_at, node_lengths, vec_items}
use Rattle.indexset_spine.specs.NodeList.{NodeList, node_list, end_spot, with_inserted, with_last}
use Rattle.indexset_spine.specs.Edits.{IsShortEnd}
use Rattle.indexset_spine.proofs.AppendLemmas.{block_taken, block_writes, lengths-block, short_end, spine_all_last}
use Rattle.indexset_core.proofs.CallerLemmas.{on_err}
use Rattle.indexset_spine.proofs.EditSteps.{node_len, spot_in}
use Rattle.indexset_index.proofs.CallerLemmas.{count-lengths}
use Rattle.indexset_spine.proofs.VecNodes.{length-vec_items}
use Rattle.indexset_spine.proofs.spine.Spine.append_block.Given.{Over}
use Rattle.indexset_spine.proofs.spine.Spine.append_block.Goals as goal
use Rattle.indexset_spine.proofs.spine.Spine.append_block.Goals.{After-move_front}

module _ (g : Over) (c : After-move_front g) where
  place : c.end-end.result ≡ end_spot (vec_items c.self.inside.nodes.items)
  place = c.end-end.ensures.place ∙ ap (λ (t : NodeList g.row.T.Denot). end_spot t.nodes) (sym c.self.view_is)

  end : IsShortEnd c.self.inside.size (vec_items c.make_room.new.nodes.items) c.in_ok-to.to
  end = c.in_ok-to.ensures.end (short_end _ _ _ c.self.invariant.is_spine.is_cut place)

  abbrev held : List (List g.row.T.Denot)
  held = vec_items c.make_room.new.nodes.items

  abbrev node : ℕ
  node = c.in_ok-to.to.node

  abbrev moved : List g.row.T.Denot
  moved = take c.min-count.result c.args.from.now.items

  node_in : node < length held
  node_in = c.in_ok-to.ensures.spot.node_in

  long : length (node_at held node) ≡ vec_len c.index_mut-node.result.now
  long = node_len _ _ _ node_in c.index_mut-node.ensures.value

  room : vec_len c.index_mut-node.result.now < vec_capacity c.index_mut-node.result.now
  room = subst (λ (v : Vec _ _). vec_len v < vec_capacity v) (sym c.index_mut-node.ensures.value) (c.in_ok-to.ensures.room c.index_mut-node.result.now)

  some : 0 < c.min-count.result
  some = omega (arith, room, long, end.end, end.short, c.requires)

  count_is : length moved ≡ c.min-count.result
  count_is = length-take-le c.min-count.result c.args.from.now.items (omega arith)

  writes : vec_items (slice_set c.make_room.new.nodes.items node c.move_front.new.other) ≡ slice_set held node (node_at held node ++ moved)
  writes = block_writes _ node _ _ moved node_in c.index_mut-node.ensures.value c.move_front.ensures.moved

  nodes : slice_set held node (node_at held node ++ moved) ≡ fold (with_last c.self.inside.size) (vec_items c.self.inside.nodes.items) moved
  nodes =
      block_taken c.self.inside.size (vec_items c.self.inside.nodes.items) held c.in_ok-to.to moved end
      (λ v. c.in_ok-to.ensures.nodes v ∙ ap (λ s. with_inserted c.self.inside.size (vec_items c.self.inside.nodes.items) s v) place)
      (omega (arith, count_is, some)) (omega (arith, count_is, long, end.end, end.short))

pub invariant_of-self-2 : goal.invariant_of-self-2
invariant_of-self-2 g c =
    let at = (goal.at.invariant_of-self-2 g c).After-move_front in
    record {
      is_spine = rw (writes g at ∙ nodes g at) (spine_all_last _ _ _ _ (moved g at) c.self.invariant.is_spine (ap (λ n. c.self.inside.len + n) (sym (count_is g at))));
      index_is =
          c.add.ensures.lengths
          ∙ (ap (λ ls. slice_set ls (node g at) (get_or ls (node g at) 0 + c.min-count.result)) c.make_room.ensures.index
          ∙ (ap (λ n. slice_set (node_lengths (held g at)) (node g at) (get_or (node_lengths (held g at)) (node g at) 0 + n)) (sym (count_is g at))
          ∙ (sym (lengths-block (held g at) (node g at) (moved g at) (node_in g at)) ∙ ap (λ (ns : List (List g.row.T.Denot)). node_lengths ns) (sym (writes g at)))));
    }

pub returns-clause-moved : goal.returns-clause-moved
returns-clause-moved g c =
    let at = (goal.at.returns-clause-moved g c).After-move_front in (
      moved g at,
      sym (ap (λ l. moved g at ++ l) c.move_front.ensures.left ∙ take-append-drop c.min-count.result c.args.from.now.items),
      writes g at ∙ (nodes g at ∙ ap (λ (t : NodeList g.row.T.Denot). fold (with_last t.size) t.nodes (moved g at)) c.self.view_is),
    )

pub returns-clause-fewer : goal.returns-clause-fewer
returns-clause-fewer g c =
    let at = (goal.at.returns-clause-fewer g c).After-move_front in
    omega (arith, some g at, c.requires, ap (λ l. length l) c.move_front.ensures.left, length-drop c.min-count.result c.args.from.now.items)

pub overflow_sub-self-inside : goal.overflow_sub-self-inside
overflow_sub-self-inside g c =
    let place = c.end-end.ensures.place ∙ ap (λ (t : NodeList g.row.T.Denot). end_spot t.nodes) (sym c.self.view_is) in
    omega (arith, (short_end c.self.inside.size (vec_items c.self.inside.nodes.items) c.end-end.result c.self.invariant.is_spine.is_cut place).short)

pub make_room-requires-clause-spot : goal.make_room-requires-clause-spot
make_room-requires-clause-spot g c = spot_in (vec_items c.self.inside.nodes.items) c.self.inside.size c.args.self.now c.end-end.result c.self.view_is c.end-end.ensures.spot

pub make_room-requires-clause-fits : goal.make_room-requires-clause-fits
make_room-requires-clause-fits g c = omega (arith, c.self.invariant.is_spine.total_is, ap sum c.self.invariant.index_is)

pub invariant_of-self : goal.invariant_of-self
invariant_of-self g c = record { is_spine = rw c.in_err-to.ensures.unchanged c.self.invariant.is_spine; index_is = c.make_room.ensures.index }

pub returns-in_err-to-clause-unchanged : goal.returns-in_err-to-clause-unchanged
returns-in_err-to-clause-unchanged g c = on_err c.from_residual.result (ap (λ (ns : List (List g.row.T.Denot)). node_list ns c.self.inside.size) c.in_err-to.ensures.unchanged ∙ c.self.view_is)

pub returns-in_err-to-clause-moved : goal.returns-in_err-to-clause-moved
returns-in_err-to-clause-moved g c = ([], refl, c.in_err-to.ensures.unchanged ∙ ap (λ (t : NodeList g.row.T.Denot). t.nodes) c.self.view_is)

pub index_mut-node-requires : goal.index_mut-node-requires
index_mut-node-requires g c = omega (arith, c.in_ok-to.ensures.spot.node_in, length-vec_items c.make_room.new.nodes.items, c.make_room.new.nodes.ok)

pub add-requires-clause-inside : goal.add-requires-clause-inside
add-requires-clause-inside g c = omega (arith, c.in_ok-to.ensures.spot.node_in, ap (λ l. length l) c.make_room.ensures.index, count-lengths (vec_items c.make_room.new.nodes.items))

pub add-requires-clause-fits : goal.add-requires-clause-fits
add-requires-clause-fits g c = omega (arith, c.make_room.ensures.sum, ap sum c.self.invariant.index_is, c.self.invariant.is_spine.total_is, c.min-count.ensures)

pub overflow_sub-room : goal.overflow_sub-room
overflow_sub-room g c =
    let place = c.end-end.ensures.place ∙ ap (λ (t : NodeList g.row.T.Denot). end_spot t.nodes) (sym c.self.view_is) in
    let end = c.in_ok-to.ensures.end (short_end c.self.inside.size (vec_items c.self.inside.nodes.items) c.end-end.result c.self.invariant.is_spine.is_cut place) in
    let long = node_len c.make_room.new.nodes.items c.in_ok-to.to.node c.index_mut-node.result.now c.in_ok-to.ensures.spot.node_in c.index_mut-node.ensures.value in
    omega (arith, c.len-2.ensures, c.min-2.ensures, c.capacity.ensures, long, end.end, end.short, c.index_mut-node.result.now.ok)

pub move_front-requires-clause-room : goal.move_front-requires-clause-room
move_front-requires-clause-room g c = omega (arith, c.len-2.ensures, c.min-2.ensures, c.min-3.ensures, c.min-count.ensures, c.capacity.ensures, c.index_mut-node.result.now.ok)
