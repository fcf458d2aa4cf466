use Rattle.std.proofs.Common.{◌≡◌, ◌+◌, ◌<◌, ◌≤◌, length, arith, ap, sym, ◌∙◌, subst}
use Rattle.indexset_core.specs.Nodes.{node_at, vec_items}
use Rattle.indexset_core.specs.Order.{IsAscending}
use Rattle.indexset_spine.specs.NodeList.{NodeList, items}
use Rattle.indexset_spine.proofs.NodeListEdits.{node_bounded}
use Rattle.indexset_spine.proofs.EditSteps.{node_len, node_is, spot_in}
use Rattle.indexset_spine.proofs.MergeSteps.{below_read}
use Rattle.indexset_spine.proofs.PutLemmas.{node_up}
use Rattle.indexset_spine.proofs.spine.Spine.count_inside.Given.{Over}
use Rattle.indexset_spine.proofs.spine.Spine.count_inside.Goals as goal
use Rattle.indexset_spine.proofs.spine.Spine.count_inside.Goals.{After-as_slice-from}

module _ (g : Over) (c : After-as_slice-from g) where
  node_long : length c.as_slice-node.result.now ≡ length (node_at (vec_items c.self.inside.nodes.items) c.args.spot.now.node)
  node_long =
      let spot = spot_in _ _ c.args.self.now c.args.spot.now c.self.view_is c.requires.spot in
      omega (arith, c.as_slice-node.ensures.len, node_len c.self.inside.nodes.items c.args.spot.now.node _ spot.node_in c.index.ensures)

  low : length (node_at (vec_items c.self.inside.nodes.items) c.args.spot.now.node) ≤ c.self.inside.size
  low =
      let spot = spot_in _ _ c.args.self.now c.args.spot.now c.self.view_is c.requires.spot in
      node_bounded (vec_items c.self.inside.nodes.items) c.args.spot.now.node c.self.inside.size spot.node_in c.self.invariant.is_spine.is_cut

  some_node : 0 < length (vec_items c.other.inside.nodes.items)
  some_node = subst (λ (t : NodeList g.row.T.Denot). 0 < length t.nodes) (sym c.other.view_is) c.recall_lengths.ensures.some

  from_is : node_at (vec_items c.other.inside.nodes.items) 0 ≡ c.as_slice-from.result.now
  from_is = node_is c.other.inside.nodes.items 0 c.index-2.result.now some_node c.index-2.ensures ∙ sym c.as_slice-from.ensures.value

pub count_below_last-count-requires : goal.count_below_last-count-requires
count_below_last-count-requires g c =
    let order = subst (λ (t : NodeList g.row.T.Denot). IsAscending g.T.Ord.cmp (items t)) (sym c.other.view_is) c.requires.order in
    subst (IsAscending g.T.Ord.cmp) (from_is g c) (node_up (vec_items c.other.inside.nodes.items) 0 (some_node g c) g.T.Ord.cmp order)

pub overflow_sub-self-inside : goal.overflow_sub-self-inside
overflow_sub-self-inside g c = omega (arith, node_long g c, low g c)

pub returns-then-saturating_mul-node-clause-room : goal.returns-then-saturating_mul-node-clause-room
returns-then-saturating_mul-node-clause-room g c =
    let at = (goal.at.returns-then-saturating_mul-node-clause-room g c).After-as_slice-from in
    subst (λ (t : NodeList g.row.T.Denot). length (node_at t.nodes c.args.spot.now.node) + 0 ≤ t.size) c.self.view_is (omega (arith, low g at))

pub returns-clause-room : goal.returns-clause-room
returns-clause-room g c =
    let at = (goal.at.returns-clause-room g c).After-as_slice-from in
    subst (λ (t : NodeList g.row.T.Denot). length (node_at t.nodes c.args.spot.now.node) + c.count_below_last-count.result ≤ t.size) c.self.view_is
    (omega (arith, low g at, node_long g at, c.count_below_last-count.ensures.most))

pub returns-clause-within : goal.returns-clause-within
returns-clause-within g c =
    let at = (goal.at.returns-clause-within g c).After-as_slice-from in
    omega (arith, c.count_below_last-count.ensures.within, ap (λ (t : NodeList g.row.T.Denot). length (node_at t.nodes 0)) c.other.view_is, ap (λ l. length l) (from_is g at))

pub returns-clause-below : goal.returns-clause-below
returns-clause-below g c =
    let at = (goal.at.returns-clause-below g c).After-as_slice-from in
    let spot = spot_in _ _ c.args.self.now c.args.spot.now c.self.view_is c.requires.spot in
    below_read g.T.Ord.cmp c.args.self.now c.args.other.now (vec_items c.self.inside.nodes.items)
    c.other.inside.nodes.items c.self.inside.size c.other.inside.size c.args.spot.now.node
    c.count_below_last-count.result c.as_slice-node.result.now c.as_slice-from.result.now c.self.view_is
    c.other.view_is
    (node_is c.self.inside.nodes.items c.args.spot.now.node c.index.result.now spot.node_in c.index.ensures
    ∙ sym c.as_slice-node.ensures.value)
    (some_node g at) (from_is g at) c.count_below_last-count.ensures.within c.count_below_last-count.ensures.below
