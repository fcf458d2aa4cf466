use Rattle.std.proofs.Common.{◌≡◌, List, ◌∙◌, arith, ap, sym, sum, take, length}
use Rattle.indexset_core.specs.Nodes.{node_lengths, vec_items}
use Rattle.indexset_core.proofs.CallerLemmas.{on_err}
use Rattle.indexset_spine.proofs.EditSteps.{lists_kept, room_puts, node_len, inserted_full}
use Rattle.indexset_index.proofs.CallerLemmas.{count-lengths}
use Rattle.indexset_spine.proofs.IndexLemmas.{halved_keeps, halved_sum}
use Rattle.indexset_spine.proofs.VecNodes.{length-vec_items}
use Rattle.indexset_spine.specs.NodeList.{position_of}
use Rattle.indexset_spine.proofs.spine.insert.make_room.Goals as goal

pub returns-in_err-reserve-clause-unchanged : goal.returns-in_err-reserve-clause-unchanged
returns-in_err-reserve-clause-unchanged g c =
    on_err c.from_residual.result (lists_kept _ _ _ _ c.requires.spot.node_in c.index_mut.ensures.value c.reserve.ensures.items)

pub returns-in_err-reserve-clause-index : goal.returns-in_err-reserve-clause-index
returns-in_err-reserve-clause-index g c =
    c.requires.index ∙ sym (ap (λ (ns : List (List g.row.T.Denot)). node_lengths ns) (lists_kept _ _ _ c.reserve.new.self c.requires.spot.node_in c.index_mut.ensures.value c.reserve.ensures.items))

pub returns-then-len-size-clause-spot : goal.returns-then-len-size-clause-spot
returns-then-len-size-clause-spot g c =
    let e = lists_kept c.args.nodes.now.items c.args.spot.node _ c.reserve.new.self c.requires.spot.node_in c.index_mut.ensures.value c.reserve.ensures.items in
    rw e c.requires.spot

pub returns-then-len-size-clause-nodes : goal.returns-then-len-size-clause-nodes
returns-then-len-size-clause-nodes g c =
    let long = node_len c.args.nodes.now.items c.args.spot.node _ c.requires.spot.node_in c.index.ensures in
    λ value. room_puts c.args.nodes.now.items c.args.spot _ _ c.args.size value c.requires.spot.node_in c.index_mut.ensures.value c.reserve.ensures.items (omega (arith, long, c.len.ensures))

pub returns-then-len-size-clause-index : goal.returns-then-len-size-clause-index
returns-then-len-size-clause-index g c =
    c.requires.index ∙ sym (ap (λ (ns : List (List g.row.T.Denot)). node_lengths ns) (lists_kept _ _ _ c.reserve.new.self c.requires.spot.node_in c.index_mut.ensures.value c.reserve.ensures.items))

pub rebuild_from-requires-clause-same : goal.rebuild_from-requires-clause-same
rebuild_from-requires-clause-same g c =
    let ns = vec_items c.args.nodes.now.items in
    let k = c.args.spot.node in
    let nodes = ap (λ v. vec_items v) c.as_slice.ensures.value ∙ c.in_ok-to.ensures.halved in
    ap (take k) (c.reserve_one.ensures.lengths ∙ c.requires.index)
    ∙ ((halved_keeps ns k c.requires.spot.node_in).front ∙ sym (ap (λ (ms : List (List g.row.T.Denot)). take k (node_lengths ms)) nodes))

pub rebuild_from-requires-clause-within : goal.rebuild_from-requires-clause-within
rebuild_from-requires-clause-within g c =
    let keeps = halved_keeps (vec_items c.args.nodes.now.items) c.args.spot.node c.requires.spot.node_in in
    let nodes = ap (λ v. vec_items v) c.as_slice.ensures.value ∙ c.in_ok-to.ensures.halved in
    omega (arith, keeps.within, ap (λ l. length l) nodes, length-vec_items c.as_slice.result.now)

pub rebuild_from-requires-clause-room : goal.rebuild_from-requires-clause-room
rebuild_from-requires-clause-room g c =
    let ns = vec_items c.args.nodes.now.items in
    let keeps = halved_keeps ns c.args.spot.node c.requires.spot.node_in in
    let nodes = ap (λ v. vec_items v) c.as_slice.ensures.value ∙ c.in_ok-to.ensures.halved in
    omega (
      arith,
      keeps.few,
      ap (λ l. length l) nodes,
      length-vec_items c.as_slice.result.now,
      c.in_ok-reserve_one.ensures.room,
      ap (λ l. length l) (c.reserve_one.ensures.lengths ∙ c.requires.index),
      count-lengths ns,
    )

pub rebuild_from-requires-clause-fits : goal.rebuild_from-requires-clause-fits
rebuild_from-requires-clause-fits g c =
    let ns = vec_items c.args.nodes.now.items in
    let nodes = ap (λ v. vec_items v) c.as_slice.ensures.value ∙ c.in_ok-to.ensures.halved in
    omega (arith, halved_sum ns c.args.spot.node c.requires.spot.node_in, ap (λ l. sum (node_lengths l)) nodes, ap sum c.requires.index, c.requires.fits)

pub returns-clause-nodes : goal.returns-clause-nodes
returns-clause-nodes g c =
    let long = node_len c.args.nodes.now.items c.args.spot.node _ c.requires.spot.node_in c.index.ensures in
    λ value. c.in_ok-to.ensures.nodes value ∙ inserted_full c.args.size (vec_items c.args.nodes.now.items) c.args.spot value (omega (arith, long, c.len.ensures))

pub returns-clause-sum : goal.returns-clause-sum
returns-clause-sum g c =
    let ns = vec_items c.args.nodes.now.items in
    let nodes = ap (λ v. vec_items v) c.as_slice.ensures.value ∙ c.in_ok-to.ensures.halved in
    ap sum c.rebuild_from.ensures.lengths
    ∙ (ap (λ (l : List (List g.row.T.Denot)). sum (node_lengths l)) nodes
    ∙ (halved_sum ns c.args.spot.node c.requires.spot.node_in ∙ ap sum (sym c.requires.index)))

pub returns-then-len-size-clause-end : goal.returns-then-len-size-clause-end
returns-then-len-size-clause-end g c =
    let e = lists_kept c.args.nodes.now.items c.args.spot.node _ c.reserve.new.self c.requires.spot.node_in c.index_mut.ensures.value c.reserve.ensures.items in
    let long = node_len c.args.nodes.now.items c.args.spot.node _ c.requires.spot.node_in c.index.ensures in
    λ at. rw e (record { last = at.last; end = at.end; short = omega (arith, at.end, long, c.len.ensures) })

pub returns-clause-end : goal.returns-clause-end
returns-clause-end g c =
    let long = node_len c.args.nodes.now.items c.args.spot.node _ c.requires.spot.node_in c.index.ensures in
    λ at.
    let full : c.args.spot.offset ≡ c.args.size = omega (arith, at.end, at.short, long, c.len.ensures) in
    rw (← full) (c.in_ok-to.ensures.end record { last = at.last; end = at.end; short = omega arith })

pub returns-then-len-size-clause-position : goal.returns-then-len-size-clause-position
returns-then-len-size-clause-position g c =
    ap (λ (ns : List (List g.row.T.Denot)). position_of ns c.args.spot)
    (lists_kept c.args.nodes.now.items c.args.spot.node _ c.reserve.new.self c.requires.spot.node_in
    c.index_mut.ensures.value c.reserve.ensures.items)
