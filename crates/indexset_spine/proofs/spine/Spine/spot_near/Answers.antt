use Rattle.std.proofs.Common.{◌-◌, ◌∙◌, List, ap, arith, subst}
use Rattle.indexset_core.specs.Nodes.{vec_items}
use Rattle.indexset_spine.specs.NodeList.{NodeList, IsItemSpot}
use Rattle.indexset_spine.specs.Lengths.{spot_at}
use Rattle.indexset_spine.proofs.PlaceLemmas.{item_node, place_position}
use Rattle.indexset_spine.proofs.VecNodes.{length-vec_items}
use Rattle.indexset_spine.proofs.spine.Spine.spot_near.Goals as goal

pub returns-then-is_in-clause-position : goal.returns-then-is_in-clause-position
returns-then-is_in-clause-position g c =
    let told = c.is_in.ensures c.if-is_in.true in
    omega (arith, c.requires.near, told.1, place_position c.args.self.now.nodes (spot_at c.args.near (c.args.i - c.args.start)))

pub returns-then-is_in-clause-node : goal.returns-then-is_in-clause-node
returns-then-is_in-clause-node g c =
    let told = c.is_in.ensures c.if-is_in.true in
    let vs = c.as_slice.result.now in
    let spot = spot_at c.args.near (c.args.i - c.args.start) in
    let same = ap (λ v. vec_items v) c.as_slice.ensures.value ∙ ap (λ (t : NodeList g.row.T.Denot). t.nodes) c.self.view_is in
    let there : IsItemSpot (vec_items vs) spot = record { node_in = omega (arith, told.0, length-vec_items vs); offset_in = told.2 } in
    item_node c.args.self.now.nodes spot c.args.i (subst (λ (l : List (List g.row.T.Denot)). IsItemSpot l spot) same there) (returns-then-is_in-clause-position g c)

pub returns-clause-node : goal.returns-clause-node
returns-clause-node g c = let at = rw c.unwrap.ensures at c.spot.ensures in item_node c.args.self.now.nodes c.unwrap.result c.args.i at.0 at.1
