use Rattle.std.proofs.Common.{List, ◌∙◌, ap, sym, arith, sum, length, take, drop}
use Rattle.indexset_core.specs.Nodes.{concat, node_lengths, vec_items}
use Rattle.indexset_spine.specs.NodeList.{NodeList, items, position_of}
use Rattle.indexset_spine.proofs.NodeListEdits.{position_below}
use Rattle.indexset_spine.proofs.NodeListSplits.{joined_left, joined_right, spine_left, spine_right}
use Rattle.indexset_spine.proofs.EditSteps.{spot_in}
use Rattle.indexset_index.proofs.CallerLemmas.{count-lengths}
use Rattle.indexset_spine.proofs.IndexLemmas.{left_keeps, right_few}
use Rattle.indexset_spine.proofs.VecNodes.{length-vec_items}
use Rattle.indexset_spine.proofs.spine.Spine.split_off.Goals as goal

pub overflow_sub-right : goal.overflow_sub-right
overflow_sub-right g c =
    let spot = spot_in _ _ c.args.self.now c.args.spot c.self.view_is c.requires in
    let left = rw (← c.self.view_is) at c.position-left.ensures in
    rw left (position_below _ _ _ c.args.spot spot c.self.invariant.is_spine)

pub overflow_sub-count : goal.overflow_sub-count
overflow_sub-count g c =
    let spot = spot_in _ _ c.args.self.now c.args.spot c.self.view_is c.requires in
    omega (arith, spot.node_in, count-lengths (vec_items c.self.inside.nodes.items), ap (λ l. length l) c.self.invariant.index_is, c.len-count.ensures.value)

pub rebuild-requires-clause-room : goal.rebuild-requires-clause-room
rebuild-requires-clause-room g c =
    let spot = spot_in _ _ c.args.self.now c.args.spot c.self.view_is c.requires in
    let nodes = ap (λ v. vec_items v) c.as_slice.ensures.value ∙ c.in_ok-nodes.ensures.right in
    omega (
      arith,
      right_few _ c.args.spot spot,
      ap (λ l. length l) nodes,
      length-vec_items c.as_slice.result.now,
      count-lengths (vec_items c.self.inside.nodes.items),
      ap (λ l. length l) c.self.invariant.index_is,
      c.len-count.ensures.value,
      c.in_ok-index.ensures.room,
    )

pub rebuild-requires-clause-fits : goal.rebuild-requires-clause-fits
rebuild-requires-clause-fits g c =
    let spot = spot_in _ _ c.args.self.now c.args.spot c.self.view_is c.requires in
    let nodes = ap (λ v. vec_items v) c.as_slice.ensures.value ∙ c.in_ok-nodes.ensures.right in
    omega (
      arith,
      (spine_right _ c.args.spot spot _ _ c.self.invariant.is_spine).total_is,
      ap (λ l. sum (node_lengths l)) nodes,
      c.self.invariant.is_spine.total_is,
      ap sum c.self.invariant.index_is,
      c.len-count.ensures.fits,
    )

pub rebuild_from-requires-clause-same : goal.rebuild_from-requires-clause-same
rebuild_from-requires-clause-same g c =
    let spot = spot_in _ _ c.args.self.now c.args.spot c.self.view_is c.requires in
    let nodes = ap (λ v. vec_items v) c.as_slice-2.ensures.value ∙ c.in_ok-nodes.ensures.left in
    let k = c.args.spot.node in
    ap (take k) c.self.invariant.index_is
    ∙ ((left_keeps _ c.args.spot spot).front ∙ sym (ap (λ (ms : List (List g.row.T.Denot)). take k (node_lengths ms)) nodes))

pub rebuild_from-requires-clause-within : goal.rebuild_from-requires-clause-within
rebuild_from-requires-clause-within g c =
    let spot = spot_in _ _ c.args.self.now c.args.spot c.self.view_is c.requires in
    let nodes = ap (λ v. vec_items v) c.as_slice-2.ensures.value ∙ c.in_ok-nodes.ensures.left in
    omega (arith, (left_keeps _ c.args.spot spot).within, ap (λ l. length l) nodes, length-vec_items c.as_slice-2.result.now)

pub rebuild_from-requires-clause-room : goal.rebuild_from-requires-clause-room
rebuild_from-requires-clause-room g c =
    let ns = vec_items c.self.inside.nodes.items in
    let spot = spot_in _ _ c.args.self.now c.args.spot c.self.view_is c.requires in
    let nodes = ap (λ v. vec_items v) c.as_slice-2.ensures.value ∙ c.in_ok-nodes.ensures.left in
    omega (
      arith,
      (left_keeps _ c.args.spot spot).few,
      ap (λ l. length l) nodes,
      length-vec_items c.as_slice-2.result.now,
      c.len-count.ensures.within,
      ap (λ l. length l) c.self.invariant.index_is,
      count-lengths ns,
    )

pub rebuild_from-requires-clause-fits : goal.rebuild_from-requires-clause-fits
rebuild_from-requires-clause-fits g c =
    let ns = vec_items c.self.inside.nodes.items in
    let spot = spot_in _ _ c.args.self.now c.args.spot c.self.view_is c.requires in
    let nodes = ap (λ v. vec_items v) c.as_slice-2.ensures.value ∙ c.in_ok-nodes.ensures.left in
    omega (
      arith,
      (spine_left _ c.args.spot spot _ _ c.self.invariant.is_spine).total_is,
      position_below _ _ _ c.args.spot spot c.self.invariant.is_spine,
      c.self.invariant.is_spine.total_is,
      ap sum c.self.invariant.index_is,
      ap (λ l. sum (node_lengths l)) nodes,
      c.len-count.ensures.fits,
    )

pub invariant_of-right : goal.invariant_of-right
invariant_of-right g c =
    let spot = spot_in _ _ c.args.self.now c.args.spot c.self.view_is c.requires in
    let left = rw (← c.self.view_is) at c.position-left.ensures in
    record {
      is_spine = rw (c.in_ok-nodes.ensures.right, left) (spine_right _ c.args.spot spot _ _ c.self.invariant.is_spine);
      index_is = c.rebuild.ensures.lengths ∙ ap (λ v. node_lengths (vec_items v)) c.as_slice.ensures.value;
    }

pub invariant_of-self-2 : goal.invariant_of-self-2
invariant_of-self-2 g c =
    let spot = spot_in _ _ c.args.self.now c.args.spot c.self.view_is c.requires in
    let left = rw (← c.self.view_is) at c.position-left.ensures in
    record {
      is_spine = rw (c.in_ok-nodes.ensures.left, left) (spine_left _ c.args.spot spot _ _ c.self.invariant.is_spine);
      index_is = c.rebuild_from.ensures.lengths ∙ ap (λ v. node_lengths (vec_items v)) c.as_slice-2.ensures.value;
    }

pub returns-clause-left : goal.returns-clause-left
returns-clause-left g c =
    let spot = spot_in _ _ c.args.self.now c.args.spot c.self.view_is c.requires in
    ap concat c.in_ok-nodes.ensures.left
    ∙ (joined_left _ c.args.spot spot ∙ ap (λ (t : NodeList g.row.T.Denot). take (position_of t.nodes c.args.spot) (items t)) c.self.view_is)

pub returns-clause-right : goal.returns-clause-right
returns-clause-right g c =
    let spot = spot_in _ _ c.args.self.now c.args.spot c.self.view_is c.requires in
    ap concat c.in_ok-nodes.ensures.right
    ∙ (joined_right _ c.args.spot spot ∙ ap (λ (t : NodeList g.row.T.Denot). drop (position_of t.nodes c.args.spot) (items t)) c.self.view_is)
