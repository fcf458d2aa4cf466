use Rattle.std.proofs.Common.{◌≡◌, ◌<◌, List, length, take, drop, Some, slice_get, ◌∙◌, sym, ap, subst, arith, length-drop}
use Rattle.std.specs.List.{fold, slice_set}
use Rattle.indexset_core.specs.Nodes.{concat, node_at, node_for}
use Rattle.indexset_core.specs.Order.{IsAscending, put}
use Rattle.indexset_core.proofs.CallerLemmas.{found_ascending, found_has_equal, found_put, gap_has_equal, gap_put, gap_ascending}
use Rattle.indexset_spine.specs.declared.spot.Spot.{Spot}
use Rattle.indexset_spine.specs.NodeList.{node_list, items, position_of, with_replaced}
use Rattle.indexset_spine.specs.Edits.{FoldsPrefix}
use Rattle.indexset_spine.proofs.CallerLemmas.{takes_first}
use Rattle.indexset_set.specs.SetNodes.{nodes_put}
use Rattle.indexset_set.proofs.SetBulkLemmas.{item_is, rest_ascending}
use Rattle.indexset_set.proofs.SetNodeLemmas.{put_new, put_there}
use Rattle.indexset_core.proofs.CallerLemmas.{tail_up}
use Rattle.indexset_set.proofs.SetRunLemmas.{grown_up, taken_run, taken_run_nodes}
use Rattle.indexset_set.proofs.BTreeSet.put_some_of.Given.{Over}
use Rattle.indexset_set.proofs.BTreeSet.put_some_of.Goals as goal
use Rattle.indexset_set.proofs.BTreeSet.put_some_of.Goals.{After-count_inside-run}

-- the insertion point of the first element
module _ (g : Over) (c : After-count_inside-run g) where
  found : c.locate_near-spot.result.node ≡ node_for (λ y. g.T.Ord.cmp y c.item.result.now) c.self.inside.spine.nodes
  found = ap (λ (p : Spot). p.node) c.locate_near-spot.ensures.place

  begins : slice_get (items c.other.inside.spine) 0 ≡ Some c.item.result.now
  begins = rw c.in-Some.ensures.1 at c.item.ensures

  -- and a run that is inserted there
  abbrev nodes : List (List g.row.T.Denot)
  nodes =
      let ns = c.self.inside.spine.nodes in let k = c.locate_near-spot.result.node in
      slice_set ns k (fold (put g.T.Ord.cmp) (node_at ns k) (take c.count_inside-run.result (items c.other.inside.spine)))

  module _ (positive : 0 < c.count_inside-run.result) where
    run_moved : FoldsPrefix (put g.T.Ord.cmp) (items c.self.inside.spine) (items c.other.inside.spine) (concat nodes) (drop c.count_inside-run.result (items c.other.inside.spine))
    run_moved =
        taken_run g.T.Ord.cmp g.met.T.Ord.total c.self.inside.spine.nodes c.locate_near-spot.result.node
        c.locate_near-spot.ensures.spot.node_in c.self.inside.spine.size c.recall_lengths.ensures.cut
        c.self.invariant c.item.result.now found
        (items c.other.inside.spine) c.count_inside-run.result c.other.invariant begins positive c.count_inside-run.ensures.below

    run_nodes : FoldsPrefix (λ ms x. nodes_put g.T.Ord.cmp (node_list ms c.self.inside.spine.size) x)
        c.self.inside.spine.nodes (items c.other.inside.spine) nodes
        (drop c.count_inside-run.result (items c.other.inside.spine))
    run_nodes =
        taken_run_nodes g.T.Ord.cmp g.met.T.Ord.total c.self.inside.spine.nodes c.locate_near-spot.result.node
        c.locate_near-spot.ensures.spot.node_in c.self.inside.spine.size c.recall_lengths.ensures.cut
        c.self.invariant c.item.result.now found
        (items c.other.inside.spine) c.count_inside-run.result c.other.invariant begins positive c.count_inside-run.ensures.below c.count_inside-run.ensures.room

pub locate_near-spot-requires : goal.locate_near-spot-requires
locate_near-spot-requires g c = c.self.invariant

pub count_inside-run-requires : goal.count_inside-run-requires
count_inside-run-requires g c = record { spot = c.locate_near-spot.ensures.spot; order = c.other.invariant }

pub merge_from-requires : goal.merge_from-requires
merge_from-requires g c = record {
  node = c.locate_near-spot.ensures.spot.node_in;
  some = c.if-run-gt0.true;
  room = c.count_inside-run.ensures.room;
  within = c.count_inside-run.ensures.within;
  order = c.self.invariant;
  other_order = c.other.invariant;
}

pub invariant_of-self : goal.invariant_of-self
invariant_of-self g c = rw c.in_err-merge_from.ensures.unchanged c.self.invariant

pub invariant_of-other : goal.invariant_of-other
invariant_of-other g c = rw c.in_err-merge_from.ensures.other_unchanged c.other.invariant

pub invariant_of-self-in_err-insert_from : goal.invariant_of-self-in_err-insert_from
invariant_of-self-in_err-insert_from g c = rw c.in_err-insert_from.ensures.unchanged c.self.invariant

pub invariant_of-self-then-run-gt0 : goal.invariant_of-self-then-run-gt0
invariant_of-self-then-run-gt0 g c =
    let at = (goal.at.invariant_of-self-then-run-gt0 g c).After-count_inside-run in
    rw c.in_ok-merge_from.ensures.nodes (grown_up g.T.Ord.cmp g.met.T.Ord.total _ _ _ _ c.self.invariant (run_moved g at c.if-run-gt0.true))

pub invariant_of-other-then-run-gt0 : goal.invariant_of-other-then-run-gt0
invariant_of-other-then-run-gt0 g c = rw c.in_ok-merge_from.ensures.rest (tail_up g.T.Ord.cmp _ c.count_inside-run.result c.other.invariant)

pub returns-then-run-gt0-clause-moved : goal.returns-then-run-gt0-clause-moved
returns-then-run-gt0-clause-moved g c =
    let at = (goal.at.returns-then-run-gt0-clause-moved g c).After-count_inside-run in
    rw (← c.self.view_is, ← c.other.view_is, c.in_ok-merge_from.ensures.nodes, c.in_ok-merge_from.ensures.rest) (run_moved g at c.if-run-gt0.true)

pub returns-then-run-gt0-clause-nodes : goal.returns-then-run-gt0-clause-nodes
returns-then-run-gt0-clause-nodes g c =
    let at = (goal.at.returns-then-run-gt0-clause-nodes g c).After-count_inside-run in
    rw (← c.self.view_is, ← c.other.view_is, c.in_ok-merge_from.ensures.nodes, c.in_ok-merge_from.ensures.rest) (run_nodes g at c.if-run-gt0.true)

pub returns-then-run-gt0-clause-fewer : goal.returns-then-run-gt0-clause-fewer
returns-then-run-gt0-clause-fewer g c =
    let some = rw (← c.other.view_is) at c.requires.some in
    rw (← c.other.view_is, c.in_ok-merge_from.ensures.rest) (omega (arith, some, c.if-run-gt0.true, length-drop c.count_inside-run.result (items c.other.inside.spine)))

pub replace-requires : goal.replace-requires
replace-requires g c = c.locate_near-spot.ensures.item c.if-spot.true

pub invariant_of-self-then-spot : goal.invariant_of-self-then-spot
invariant_of-self-then-spot g c =
    let there = rw c.if-spot.true at c.locate_near-spot.ensures.found in
    let same = item_is (items c.other.inside.spine) (position_of c.other.inside.spine.nodes c.in-Some.first) _ _ c.item.ensures c.remove.ensures.value in
    rw c.replace.ensures.items
    (subst (λ v.
    IsAscending g.T.Ord.cmp
    (slice_set (items c.self.inside.spine) (position_of c.self.inside.spine.nodes c.locate_near-spot.result) v))
    same (found_ascending g.T.Ord.cmp _ _ _ g.met.T.Ord.total c.self.invariant there))

pub invariant_of-other-then-spot : goal.invariant_of-other-then-spot
invariant_of-other-then-spot g c = rw (c.remove.ensures.items, c.in-Some.ensures.1) (rest_ascending g.T.Ord.cmp _ c.other.invariant)

pub returns-then-spot-clause-moved : goal.returns-then-spot-clause-moved
returns-then-spot-clause-moved g c =
    let some = rw (← c.other.view_is) at c.requires.some in
    let there = rw c.if-spot.true at c.locate_near-spot.ensures.found in
    let same = item_is (items c.other.inside.spine) (position_of c.other.inside.spine.nodes c.in-Some.first) _ _ c.item.ensures c.remove.ensures.value in
    let first = rw c.in-Some.ensures.1 at c.item.ensures in
    rw (← c.self.view_is, ← c.other.view_is)
    (takes_first (put g.T.Ord.cmp) _ _ _ _ some
    (rw first
    (c.replace.ensures.items
    ∙ (ap (slice_set (items c.self.inside.spine) (position_of c.self.inside.spine.nodes c.locate_near-spot.result))
    (sym same)
    ∙ sym (found_put g.T.Ord.cmp _ _ _ g.met.T.Ord.total c.self.invariant there))))
    (rw c.in-Some.ensures.1 at c.remove.ensures.items))

pub returns-then-spot-clause-nodes : goal.returns-then-spot-clause-nodes
returns-then-spot-clause-nodes g c =
    let some = rw (← c.other.view_is) at c.requires.some in
    let there = rw c.if-spot.true at c.locate_near-spot.ensures.found in
    let same = item_is (items c.other.inside.spine) (position_of c.other.inside.spine.nodes c.in-Some.first) _ _ c.item.ensures c.remove.ensures.value in
    let first = rw c.in-Some.ensures.1 at c.item.ensures in
    rw (← c.self.view_is, ← c.other.view_is)
    (takes_first (λ ns x. nodes_put g.T.Ord.cmp (node_list ns c.self.inside.spine.size) x) _ _ _ _ some
    (rw first
    (put_there g.T.Ord.cmp c.self.inside.spine c.item.result.now c.locate_near-spot.result _ c.locate_near-spot.ensures.place (found_has_equal _ _ _ _ there)
    (c.replace.ensures.nodes ∙ ap (with_replaced c.self.inside.spine.nodes c.locate_near-spot.result) (sym same))))
    (rw c.in-Some.ensures.1 at c.remove.ensures.items))

pub returns-then-spot-clause-fewer : goal.returns-then-spot-clause-fewer
returns-then-spot-clause-fewer g c =
    let some = rw (← c.other.view_is) at c.requires.some in
    let rest = rw c.in-Some.ensures.1 at c.remove.ensures.items in
    rw (← c.other.view_is) (omega (arith, some, ap (λ l. length l) rest, length-drop 1 (items c.other.inside.spine)))

pub invariant_of-self-2 : goal.invariant_of-self-2
invariant_of-self-2 g c =
    let gap = rw c.if-spot.false at c.locate_near-spot.ensures.gap in
    let first = rw c.in-Some.ensures.1 at c.item.ensures in
    let put = rw first at c.in_ok-insert_from.ensures.items in
    rw put (gap_ascending g.T.Ord.cmp _ _ _ g.met.T.Ord.total gap c.self.invariant)

pub invariant_of-other-2 : goal.invariant_of-other-2
invariant_of-other-2 g c = rw c.in_ok-insert_from.ensures.rest (rest_ascending g.T.Ord.cmp _ c.other.invariant)

pub returns-clause-moved : goal.returns-clause-moved
returns-clause-moved g c =
    let some = rw (← c.other.view_is) at c.requires.some in
    let gap = rw c.if-spot.false at c.locate_near-spot.ensures.gap in
    let first = rw c.in-Some.ensures.1 at c.item.ensures in
    let inserted = rw first at c.in_ok-insert_from.ensures.items in
    rw (← c.self.view_is, ← c.other.view_is)
    (takes_first (put g.T.Ord.cmp) _ _ _ _ some (rw first (inserted ∙ sym (gap_put g.T.Ord.cmp _ _ _ gap))) c.in_ok-insert_from.ensures.rest)

pub returns-clause-nodes : goal.returns-clause-nodes
returns-clause-nodes g c =
    let some = rw (← c.other.view_is) at c.requires.some in
    let gap = rw c.if-spot.false at c.locate_near-spot.ensures.gap in
    let first = rw c.in-Some.ensures.1 at c.item.ensures in
    let inserted = rw first at c.in_ok-insert_from.ensures.nodes in
    rw (← c.self.view_is, ← c.other.view_is)
    (takes_first (λ ns x. nodes_put g.T.Ord.cmp (node_list ns c.self.inside.spine.size) x) _ _ _ _ some
    (rw first (put_new g.T.Ord.cmp c.self.inside.spine c.item.result.now c.locate_near-spot.result _ c.locate_near-spot.ensures.place (gap_has_equal _ _ _ _ gap) inserted))
    c.in_ok-insert_from.ensures.rest)

pub returns-clause-fewer : goal.returns-clause-fewer
returns-clause-fewer g c =
    let some = rw (← c.other.view_is) at c.requires.some in
    rw (← c.other.view_is) (omega (arith, some, ap (λ l. length l) c.in_ok-insert_from.ensures.rest, length-drop 1 (items c.other.inside.spine)))
