use Rattle.std.proofs.Common.{◌∙◌, ◌+◌, ◌-◌, List, ap, arith, length, refl}
use Rattle.indexset_core.specs.Nodes.{concat, vec_items}
use Rattle.indexset_core.proofs.CallerLemmas.{on_err}
use Rattle.indexset_spine.proofs.AppendLemmas.{halved_end}
use Rattle.indexset_spine.proofs.EditSteps.{IsHalved, lists_kept, right_puts, left_puts, right_room, left_room, halved_lists, half_of}
use Rattle.indexset_spine.proofs.VecNodes.{length-vec_items}
use Rattle.std.proofs.lemmas.List.{length-set}
use Rattle.indexset_spine.proofs.InsertedItemLemmas.{halved_before, halved_position, spot_left, spot_right}
use Rattle.indexset_spine.proofs.spine.insert.halve_at.Given.{Over}
use Rattle.indexset_spine.proofs.spine.insert.halve_at.Goals as goal
use Rattle.indexset_spine.proofs.spine.insert.halve_at.Goals.{In_ok-right}

-- the node is split in two
halved : (g : Over) (c : In_ok-right g) → IsHalved (vec_items c.args.nodes.now.items) c.reserve.new.self.items c.args.spot c.index_mut-node.result.now c.halve_node.new.node c.in_ok-right.right
halved g c =
    let e = c.reserve.ensures.items in
    let ok = c.in_ok-right.ensures {u = tt} in
    record { same = ap vec_items e; node_in = rw e c.requires.spot.node_in; node = c.index_mut-node.ensures.value; left = ok.left; right = ok.right }

pub returns-in_err-right-clause-unchanged : goal.returns-in_err-right-clause-unchanged
returns-in_err-right-clause-unchanged g c =
    let e = c.reserve.ensures.items in
    on_err c.from_residual-in_err-right.result
    (lists_kept c.reserve.new.self.items _ _ c.halve_node.new.node (rw e c.requires.spot.node_in) c.index_mut-node.ensures.value (c.in_err-right.ensures {u = tt}).unchanged ∙ ap vec_items e)

pub returns-then-half-spot-clause-room : goal.returns-then-half-spot-clause-room
returns-then-half-spot-clause-room g c =
    rw c.insert_item.ensures.items
    (right_room (halved g (goal.at.returns-then-half-spot-clause-room g c).In_ok-right) c.requires.two (c.in_ok-right.ensures {u = tt}).right_room)

pub returns-then-half-spot-clause-nodes : goal.returns-then-half-spot-clause-nodes
returns-then-half-spot-clause-nodes g c =
    λ value. rw c.insert_item.ensures.items
    (right_puts (halved g (goal.at.returns-then-half-spot-clause-nodes g c).In_ok-right) _ c.len-half.ensures value c.if-half-spot.true)

pub returns-clause-room : goal.returns-clause-room
returns-clause-room g c =
    rw c.insert_item.ensures.items
    (left_room (halved g (goal.at.returns-clause-room g c).In_ok-right) c.requires.two (c.in_ok-right.ensures {u = tt}).left_room)

pub returns-clause-nodes : goal.returns-clause-nodes
returns-clause-nodes g c =
    λ value. rw c.insert_item.ensures.items
    (left_puts (halved g (goal.at.returns-clause-nodes g c).In_ok-right) value (rw c.len-half.ensures at c.if-half-spot.false))

pub returns-then-half-spot-clause-halved : goal.returns-then-half-spot-clause-halved
returns-then-half-spot-clause-halved g c =
    ap vec_items c.insert_item.ensures.items ∙ halved_lists (halved g (goal.at.returns-then-half-spot-clause-halved g c).In_ok-right)

pub returns-clause-halved : goal.returns-clause-halved
returns-clause-halved g c =
    ap vec_items c.insert_item.ensures.items ∙ halved_lists (halved g (goal.at.returns-clause-halved g c).In_ok-right)

pub returns-then-half-spot-clause-end : goal.returns-then-half-spot-clause-end
returns-then-half-spot-clause-end g c =
    let cut = halved g (goal.at.returns-then-half-spot-clause-end g c).In_ok-right in
    λ at. rw (ap vec_items c.insert_item.ensures.items ∙ halved_lists cut)
    (halved_end (vec_items c.args.nodes.now.items) c.args.spot _ at c.requires.two refl (ap (λ i. c.args.spot.offset - i) (c.len-half.ensures ∙ half_of cut)))

pub returns-clause-end : goal.returns-clause-end
returns-clause-end g c =
    let cut = halved g (goal.at.returns-clause-end g c).In_ok-right in
    λ at. absurd (omega (arith, at.end, c.requires.two, c.if-half-spot.false, c.len-half.ensures, half_of cut))

pub returns-then-half-spot-clause-position : goal.returns-then-half-spot-clause-position
returns-then-half-spot-clause-position g c =
    let cut = halved g (goal.at.returns-then-half-spot-clause-position g c).In_ok-right in
    let half = c.len-half.ensures ∙ half_of cut in
    rw (ap vec_items c.insert_item.ensures.items ∙ halved_lists cut)
    (halved_position (vec_items c.args.nodes.now.items) c.args.spot.node c.args.spot.offset _ c.requires.spot.node_in half (omega (arith, c.if-half-spot.true)))

pub returns-clause-position : goal.returns-clause-position
returns-clause-position g c =
    let cut = halved g (goal.at.returns-clause-position g c).In_ok-right in
    rw (ap vec_items c.insert_item.ensures.items ∙ halved_lists cut)
    (ap (λ (ms : List (List g.row.T.Denot)). length (concat ms) + c.args.spot.offset) (halved_before (vec_items c.args.nodes.now.items) c.args.spot.node c.requires.spot.node_in))

pub returns-then-half-spot-clause-spot : goal.returns-then-half-spot-clause-spot
returns-then-half-spot-clause-spot g c =
    let cut = halved g (goal.at.returns-then-half-spot-clause-spot g c).In_ok-right in
    rw (ap vec_items c.insert_item.ensures.items ∙ halved_lists cut)
    (spot_right (vec_items c.args.nodes.now.items) c.args.spot c.len-half.result c.requires.spot (c.len-half.ensures ∙ half_of cut) c.if-half-spot.true)

pub returns-clause-spot : goal.returns-clause-spot
returns-clause-spot g c =
    let cut = halved g (goal.at.returns-clause-spot g c).In_ok-right in
    rw (ap vec_items c.insert_item.ensures.items ∙ halved_lists cut)
    (spot_left (vec_items c.args.nodes.now.items) c.args.spot c.len-half.result c.requires.spot (c.len-half.ensures ∙ half_of cut) c.if-half-spot.false)

pub returns-in_err-reserve-clause-unchanged : goal.returns-in_err-reserve-clause-unchanged
returns-in_err-reserve-clause-unchanged g c = on_err c.from_residual.result (ap vec_items c.reserve.ensures.items)

pub index_mut-node-requires : goal.index_mut-node-requires
index_mut-node-requires g c = omega (arith, c.requires.spot.node_in, length-vec_items c.args.nodes.now.items, ap (λ l. length l) c.reserve.ensures.items, c.reserve.new.self.ok)

pub insert_item-requires-clause-within : goal.insert_item-requires-clause-within
insert_item-requires-clause-within g c =
    omega (
      arith,
      c.requires.spot.node_in,
      length-vec_items c.args.nodes.now.items,
      ap (λ l. length l) c.reserve.ensures.items,
      length-set c.reserve.new.self.items c.args.spot.node c.halve_node.new.node,
    )
