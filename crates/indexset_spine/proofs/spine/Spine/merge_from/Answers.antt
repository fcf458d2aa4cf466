use Rattle.std.proofs.Common.{◌≡◌, ℕ, ◌+◌, ◌-◌, ◌<◌, ◌≤◌, List, length, sum, take, drop, get_or, slice_set, Vec, Global, sym, ap, ◌∙◌, subst, arith}
use Rattle.std.specs.List.{fold}
use Rattle.indexset_core.specs.Nodes.{concat, node_at, vec_items}
use Rattle.indexset_core.specs.Order.{IsAscending, put}
use Rattle.indexset_core.proofs.CallerLemmas.{on_err}
use Rattle.indexset_spine.specs.NodeList.{NodeList, node_list, items}
use Rattle.indexset_spine.proofs.EditSteps.{lists_kept, node_is}
use Rattle.indexset_spine.proofs.MergeSteps.{Merges, grown, length_after, length_before, lengths_after, count_within, other_items, other_lengths, other_some, other_spine, spine_after, writes}
use Rattle.indexset_index.proofs.CallerLemmas.{count-lengths, length-at}
use Rattle.indexset_spine.proofs.PutLemmas.{node_up}
use Rattle.indexset_spine.proofs.VecNodes.{length-vec_items}
use Rattle.indexset_spine.proofs.spine.Spine.merge_from.Given.{Over}
use Rattle.indexset_spine.proofs.spine.Spine.merge_from.Goals as goal
use Rattle.indexset_spine.proofs.spine.Spine.merge_from.Goals.{After-index_mut-2, After-len}

-- the nodes before the merge
module _ (g : Over) (c : After-index_mut-2 g) where
  inside : c.args.node < length (vec_items c.self.inside.nodes.items)
  inside = subst (λ (t : NodeList g.row.T.Denot). c.args.node < length t.nodes) (sym c.self.view_is) c.requires.node

  some_node : 0 < length (vec_items c.other.inside.nodes.items)
  some_node = subst (λ (t : NodeList g.row.T.Denot). 0 < length t.nodes) (sym c.other.view_is) c.recall_lengths.ensures.some

  order : IsAscending g.T.Ord.cmp (concat (vec_items c.self.inside.nodes.items))
  order = subst (λ (t : NodeList g.row.T.Denot). IsAscending g.T.Ord.cmp (items t)) (sym c.self.view_is) c.requires.order

  other_order : IsAscending g.T.Ord.cmp (concat (vec_items c.other.inside.nodes.items))
  other_order = subst (λ (t : NodeList g.row.T.Denot). IsAscending g.T.Ord.cmp (items t)) (sym c.other.view_is) c.requires.other_order

pub merge_first-requires-clause-order : goal.merge_first-requires-clause-order
merge_first-requires-clause-order g c =
    subst (IsAscending g.T.Ord.cmp) (node_is c.self.inside.nodes.items c.args.node c.index_mut.result.now (inside g c) c.index_mut.ensures.value)
    (node_up (vec_items c.self.inside.nodes.items) c.args.node (inside g c) g.T.Ord.cmp (order g c))

pub merge_first-requires-clause-from_order : goal.merge_first-requires-clause-from_order
merge_first-requires-clause-from_order g c =
    subst (IsAscending g.T.Ord.cmp) (node_is c.other.inside.nodes.items 0 c.index_mut-2.result.now (some_node g c) c.index_mut-2.ensures.value)
    (node_up (vec_items c.other.inside.nodes.items) 0 (some_node g c) g.T.Ord.cmp (other_order g c))

pub invariant_of-self : goal.invariant_of-self
invariant_of-self g c =
    let at = (goal.at.invariant_of-self g c).After-index_mut-2 in
    rw (lists_kept c.self.inside.nodes.items c.args.node c.index_mut.result.now c.merge_first.new.items (inside g at) c.index_mut.ensures.value c.in_err-merge_first.ensures.unchanged) c.self.invariant

pub returns-in_err-merge_first-clause-unchanged : goal.returns-in_err-merge_first-clause-unchanged
returns-in_err-merge_first-clause-unchanged g c =
    let at = (goal.at.returns-in_err-merge_first-clause-unchanged g c).After-index_mut-2 in
    on_err c.from_residual.result
    (ap (λ (ns : List (List g.row.T.Denot)). node_list ns c.self.inside.size)
    (lists_kept c.self.inside.nodes.items c.args.node c.index_mut.result.now c.merge_first.new.items (inside g at)
    c.index_mut.ensures.value c.in_err-merge_first.ensures.unchanged)
    ∙ c.self.view_is)

-- the nodes after it
module _ (g : Over) (c : After-len g) where
  abbrev vs : List (Vec g.row.T.Denot Global)
  vs = c.self.inside.nodes.items

  abbrev ws : List (Vec g.row.T.Denot Global)
  ws = c.other.inside.nodes.items

  abbrev more : ℕ
  more = c.len.result - c.len-before.result

  merges : Merges g.T.Ord.cmp g.met.T.Ord.total vs ws c.args.node c.args.count c.index_mut.result.now c.merge_first.new.items c.index_mut-2.result.now c.merge_first.new.from
  merges = record {
    inside = subst (λ (t : NodeList g.row.T.Denot). c.args.node < length t.nodes) (sym c.self.view_is) c.requires.node;
    node = c.index_mut.ensures.value;
    some_node = subst (λ (t : NodeList g.row.T.Denot). 0 < length t.nodes) (sym c.other.view_is) c.recall_lengths.ensures.some;
    first = c.index_mut-2.ensures.value;
    order = subst (λ (t : NodeList g.row.T.Denot). IsAscending g.T.Ord.cmp (items t)) (sym c.self.view_is) c.requires.order;
    some = c.requires.some;
    within = subst (λ (t : NodeList g.row.T.Denot). c.args.count ≤ length (node_at t.nodes 0)) (sym c.other.view_is) c.requires.within;
    merged = c.in_ok-merge_first.ensures.merged;
    rest = c.in_ok-merge_first.ensures.rest;
  }

  before_is : c.len-before.result ≡ length (node_at (vec_items vs) c.args.node)
  before_is = c.len-before.ensures ∙ length_before _ _ _ _ _ _ _ _ _ _ merges c.index.result.now c.index.ensures

  after_is : c.len.result ≡ length (fold (put g.T.Ord.cmp) (node_at (vec_items vs) c.args.node) (take c.args.count (concat (vec_items ws))))
  after_is = c.len.ensures ∙ length_after _ _ _ _ _ _ _ _ _ _ merges c.index-2.result.now c.index-2.ensures

  grows : c.len-before.result ≤ c.len.result
  grows = omega (arith, before_is, after_is, (grown _ _ _ _ _ _ _ _ _ _ merges).least)

  more_is : more + length (node_at (vec_items vs) c.args.node) ≡ length (fold (put g.T.Ord.cmp) (node_at (vec_items vs) c.args.node) (take c.args.count (concat (vec_items ws))))
  more_is = omega (arith, before_is, after_is, grows)

  few : c.self.inside.len + more < 18446744073709551616
  few = omega (arith, c.if-self-count.false, c.requires.some, before_is, after_is, (grown _ _ _ _ _ _ _ _ _ _ merges).most)

pub overflow_sub-more : goal.overflow_sub-more
overflow_sub-more g c = grows g c

pub add-requires-clause-fits : goal.add-requires-clause-fits
add-requires-clause-fits g c =
    let at = (goal.at.add-requires-clause-fits g c).After-len in
    omega (arith, few g at, c.self.invariant.is_spine.total_is, ap sum c.self.invariant.index_is)

pub overflow_add-self : goal.overflow_add-self
overflow_add-self g c = omega (arith, few g (goal.at.overflow_add-self g c).After-len)

pub invariant_of-self-2 : goal.invariant_of-self-2
invariant_of-self-2 g c =
    let at = (goal.at.invariant_of-self-2 g c).After-len in
    let k = c.args.node in
    let room : length (node_at (vec_items (vs g at)) k) + c.args.count ≤ c.self.inside.size =
    subst (λ (t : NodeList g.row.T.Denot). length (node_at t.nodes k) + c.args.count ≤ t.size) (sym c.self.view_is)
    c.requires.room in
    record {
      is_spine = spine_after _ _ _ _ _ _ _ _ _ _ (merges g at) (more g at) (more_is g at) c.self.inside.size c.self.inside.len room c.self.invariant.is_spine;
      index_is = c.add.ensures.lengths ∙ (ap (λ ls. slice_set ls k (get_or ls k 0 + more g at)) c.self.invariant.index_is ∙ lengths_after _ _ _ _ _ _ _ _ _ _ (merges g at) (more g at) (more_is g at));
    }

pub invariant_of-other-2 : goal.invariant_of-other-2
invariant_of-other-2 g c =
    let at = (goal.at.invariant_of-other-2 g c).After-len in
    record {
      is_spine = other_spine _ _ _ _ _ _ _ _ _ _ (merges g at) _ c.drop_indexed_if_empty.ensures.nodes c.other.inside.size c.other.inside.len c.other.invariant.is_spine;
      index_is = c.drop_indexed_if_empty.ensures.index;
    }

pub returns-clause-nodes : goal.returns-clause-nodes
returns-clause-nodes g c =
    let at = (goal.at.returns-clause-nodes g c).After-len in
    let k = c.args.node in
    writes _ _ _ _ _ _ _ _ _ _ (merges g at)
    ∙ (ap (λ (t : NodeList g.row.T.Denot). slice_set t.nodes k (fold (put g.T.Ord.cmp) (node_at t.nodes k) (take c.args.count (concat (vec_items (ws g at)))))) c.self.view_is
    ∙ ap (λ (t : NodeList g.row.T.Denot). slice_set c.args.self.now.nodes k (fold (put g.T.Ord.cmp) (node_at c.args.self.now.nodes k) (take c.args.count (items t)))) c.other.view_is)

pub returns-clause-rest : goal.returns-clause-rest
returns-clause-rest g c =
    let at = (goal.at.returns-clause-rest g c).After-len in
    other_items _ _ _ _ _ _ _ _ _ _ (merges g at) _ c.drop_indexed_if_empty.ensures.nodes ∙ ap (λ (t : NodeList g.row.T.Denot). drop c.args.count (items t)) c.other.view_is

pub index-requires : goal.index-requires
index-requires g c = omega (
  arith,
  subst (λ (t : NodeList g.row.T.Denot). c.args.node < length t.nodes) (sym c.self.view_is) c.requires.node,
  length-vec_items c.self.inside.nodes.items,
  c.self.inside.nodes.ok,
)

pub index_mut-requires : goal.index_mut-requires
index_mut-requires g c = omega (
  arith,
  subst (λ (t : NodeList g.row.T.Denot). c.args.node < length t.nodes) (sym c.self.view_is) c.requires.node,
  length-vec_items c.self.inside.nodes.items,
  c.self.inside.nodes.ok,
)

pub index-requires-2 : goal.index-requires-2
index-requires-2 g c = omega (
  arith,
  subst (λ (t : NodeList g.row.T.Denot). c.args.node < length t.nodes) (sym c.self.view_is) c.requires.node,
  length-vec_items c.self.inside.nodes.items,
  c.self.inside.nodes.ok,
)

pub index_mut-requires-2 : goal.index_mut-requires-2
index_mut-requires-2 g c = omega (
  arith,
  subst (λ (t : NodeList g.row.T.Denot). 0 < length t.nodes) (sym c.other.view_is) c.recall_lengths.ensures.some,
  length-vec_items c.other.inside.nodes.items,
  c.other.inside.nodes.ok,
)

pub merge_first-requires-clause-within : goal.merge_first-requires-clause-within
merge_first-requires-clause-within g c =
    omega (
      arith,
      c.requires.within,
      ap (λ (t : NodeList g.row.T.Denot). length (node_at t.nodes 0)) c.other.view_is,
      ap (λ l. length l) (node_is c.other.inside.nodes.items 0 c.index_mut-2.result.now (some_node g c) c.index_mut-2.ensures.value),
    )

pub invariant_of-other : goal.invariant_of-other
invariant_of-other g c =
    let at = (goal.at.invariant_of-other g c).After-index_mut-2 in
    rw
    (lists_kept c.other.inside.nodes.items 0 c.index_mut-2.result.now c.merge_first.new.from (some_node g at)
    c.index_mut-2.ensures.value c.in_err-merge_first.ensures.from_unchanged)
    c.other.invariant

pub returns-in_err-merge_first-clause-other_unchanged : goal.returns-in_err-merge_first-clause-other_unchanged
returns-in_err-merge_first-clause-other_unchanged g c =
    let at = (goal.at.returns-in_err-merge_first-clause-other_unchanged g c).After-index_mut-2 in
    on_err c.from_residual.result
    (ap (λ (ns : List (List g.row.T.Denot)). node_list ns c.other.inside.size)
    (lists_kept c.other.inside.nodes.items 0 c.index_mut-2.result.now c.merge_first.new.from (some_node g at)
    c.index_mut-2.ensures.value c.in_err-merge_first.ensures.from_unchanged)
    ∙ c.other.view_is)

pub add-requires-clause-inside : goal.add-requires-clause-inside
add-requires-clause-inside g c =
    let at = (goal.at.add-requires-clause-inside g c).After-len in omega (arith, (merges g at).inside, ap (λ l. length l) c.self.invariant.index_is, count-lengths (vec_items (vs g at)))

pub sub-requires-clause-inside : goal.sub-requires-clause-inside
sub-requires-clause-inside g c =
    let at = (goal.at.sub-requires-clause-inside g c).After-len in omega (arith, (merges g at).some_node, ap (λ l. length l) c.other.invariant.index_is, count-lengths (vec_items (ws g at)))

pub sub-requires-clause-enough : goal.sub-requires-clause-enough
sub-requires-clause-enough g c =
    let at = (goal.at.sub-requires-clause-enough g c).After-len in
    omega (arith, (merges g at).within, length-at (vec_items (ws g at)) 0 (merges g at).some_node, ap (λ ls. get_or ls 0 0) c.other.invariant.index_is)

pub overflow_sub-other : goal.overflow_sub-other
overflow_sub-other g c =
    let at = (goal.at.overflow_sub-other g c).After-len in count_within _ _ _ _ _ _ _ _ _ _ (merges g at) c.other.inside.size c.other.inside.len c.other.invariant.is_spine

pub drop_indexed_if_empty-requires-clause-node : goal.drop_indexed_if_empty-requires-clause-node
drop_indexed_if_empty-requires-clause-node g c = other_some _ _ _ _ _ _ _ _ _ _ (merges g (goal.at.drop_indexed_if_empty-requires-clause-node g c).After-len)

pub drop_indexed_if_empty-requires-clause-index : goal.drop_indexed_if_empty-requires-clause-index
drop_indexed_if_empty-requires-clause-index g c =
    let at = (goal.at.drop_indexed_if_empty-requires-clause-index g c).After-len in
    c.sub.ensures.lengths ∙ (ap (λ ls. slice_set ls 0 (get_or ls 0 0 - c.args.count)) c.other.invariant.index_is ∙ other_lengths _ _ _ _ _ _ _ _ _ _ (merges g at))
