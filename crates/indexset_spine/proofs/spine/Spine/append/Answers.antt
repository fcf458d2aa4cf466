use Rattle.std.proofs.Common.{◌≡◌, ◌≤◌, List, length, sum, ap, sym, arith, ◌∙◌}
use Rattle.std.proofs.lemmas.Result.{on_ok_weaker}
use Rattle.indexset_core.specs.Nodes.{concat, node_lengths, vec_items}
use Rattle.indexset_core.proofs.CallerLemmas.{length-concat}
use Rattle.indexset_spine.specs.NodeList.{with_last, with_all_last}
use Rattle.indexset_spine.proofs.AppendLemmas.{emptied_all, takes_items}
use Rattle.indexset_spine.proofs.FoldPrefixLemmas.{taken_shorter, takes_all}
use Rattle.indexset_spine.proofs.NodeListEdits.{spine_of}
use Rattle.indexset_spine.proofs.NodeListSplits.{cut_all_emptied, joined_all_emptied}
use Rattle.indexset_index.proofs.CallerLemmas.{count-lengths}
use Rattle.indexset_spine.proofs.IndexLemmas.{emptied_few}
use Rattle.indexset_spine.proofs.VecNodes.{length-vec_items}
use Rattle.indexset_spine.proofs.spine.Spine.append.Given.{Over}
use Rattle.indexset_spine.proofs.spine.Spine.append.Goals as goal
use Rattle.indexset_spine.proofs.spine.Spine.append.Goals.{After-drop_emptied}

module _ (g : Over) (c : After-drop_emptied g) where
  abbrev kept : List (List g.row.T.Denot)
  kept = vec_items c.drop_emptied.new.nodes.items

  same : concat kept ≡ concat (vec_items c.move_nodes-moved.new.from.items)
  same = ap concat c.drop_emptied.ensures ∙ joined_all_emptied (vec_items c.move_nodes-moved.new.from.items)

  fewer : length (concat kept) ≤ length (concat (vec_items c.other.inside.nodes.items))
  fewer = omega (arith, ap (λ (l : List g.row.T.Denot). length l) same, taken_shorter (with_last c.args.self.now.size) _ _ _ _ c.move_nodes-moved.ensures.moved)

  total : c.other.inside.len ≡ length (concat (vec_items c.other.inside.nodes.items))
  total = c.other.invariant.is_spine.total_is ∙ sym (length-concat (vec_items c.other.inside.nodes.items))

pub count_items-other-inside-requires : goal.count_items-other-inside-requires
count_items-other-inside-requires g c =
    let at = (goal.at.count_items-other-inside-requires g c).After-drop_emptied in
    rw c.as_slice.ensures.value (omega (arith, fewer g at, total g at))

pub rebuild-requires-clause-room : goal.rebuild-requires-clause-room
rebuild-requires-clause-room g c =
    let ns = vec_items c.other.inside.nodes.items in
    let left = vec_items c.move_nodes-moved.new.from.items in
    let many = c.move_nodes-moved.ensures.as_many in
    let few =
    emptied_few left
    (omega (
      arith,
      many,
      length-vec_items c.move_nodes-moved.new.from.items,
      length-vec_items c.other.inside.nodes.items,
      c.other.invariant.is_spine.is_cut.some,
      count-lengths ns,
    )) in
    omega (
      arith,
      few,
      many,
      ap (λ l. length l) c.drop_emptied.ensures,
      ap (λ v. length v) c.as_slice-2.ensures.value,
      length-vec_items c.drop_emptied.new.nodes.items,
      length-vec_items c.move_nodes-moved.new.from.items,
      length-vec_items c.other.inside.nodes.items,
      count-lengths ns,
      c.recall_bounds.ensures.within,
      ap (λ l. length l) c.other.invariant.index_is,
    )

pub rebuild-requires-clause-fits : goal.rebuild-requires-clause-fits
rebuild-requires-clause-fits g c =
    let at = (goal.at.rebuild-requires-clause-fits g c).After-drop_emptied in
    omega (arith, fewer g at, total g at, length-concat (kept g at), ap (λ v. sum (node_lengths (vec_items v))) c.as_slice-2.ensures.value)

pub invariant_of-other : goal.invariant_of-other
invariant_of-other g c =
    let left = vec_items c.move_nodes-moved.new.from.items in
    let cut = c.other.invariant.is_spine.is_cut in
    let is_cut = rw (sym c.drop_emptied.ensures) at (cut_all_emptied left c.other.inside.size cut.two (c.move_nodes-moved.ensures.bounded c.other.inside.size cut.bounded)) in
    record {
      is_spine = spine_of _ _ _ is_cut (rw c.as_slice.ensures.value at c.count_items-other-inside.ensures);
      index_is = c.rebuild.ensures.lengths ∙ ap (λ v. node_lengths (vec_items v)) c.as_slice-2.ensures.value;
    }

pub returns-clause-nodes : goal.returns-clause-nodes
unfolding with_all_last
returns-clause-nodes g c =
    rw (← c.other.view_is)
    (on_ok_weaker c.move_nodes-moved.result
    (λ none. takes_all (with_last c.args.self.now.size) _ _ _ _ c.move_nodes-moved.ensures.moved none)
    c.move_nodes-moved.ensures.emptied)

pub returns-clause-emptied : goal.returns-clause-emptied
returns-clause-emptied g c =
    on_ok_weaker c.move_nodes-moved.result (λ none. c.drop_emptied.ensures ∙ emptied_all (vec_items c.move_nodes-moved.new.from.items) none) c.move_nodes-moved.ensures.emptied

pub returns-clause-moved : goal.returns-clause-moved
returns-clause-moved g c =
    let at = (goal.at.returns-clause-moved g c).After-drop_emptied in
    rw (same g at, ← c.other.view_is) c.move_nodes-moved.ensures.moved

pub returns-clause-some_left : goal.returns-clause-some_left
returns-clause-some_left g c =
    let at = (goal.at.returns-clause-some_left g c).After-drop_emptied in
    rw (same g at) c.move_nodes-moved.ensures.some_left

pub returns-clause-items : goal.returns-clause-items
returns-clause-items g c =
    let at = (goal.at.returns-clause-items g c).After-drop_emptied in
    rw (same g at, ← c.other.view_is) (takes_items c.args.self.now.size _ _ _ _ c.recall_lengths.ensures.cut c.move_nodes-moved.ensures.moved)
