use Rattle.std.proofs.Common.{Some, map, refl, ap, sym, arith, rules, ◌∙◌}
use Rattle.std.specs.Ordering.{is_lt}
use Rattle.std.proofs.lemmas.List.Sorted.{answers_always}
use Rattle.indexset_events.proofs.CallerLemmas.{ascending_answer, filled_first, nodes_ruled, refused_empty, refused_unsorted}
use Rattle.indexset_replica.proofs.AttachLemmas.{IsPlaceFor, goes, goes_last, overlaps}
use Rattle.indexset_replica.proofs.places.place_of_node.Given.{Over}
use Rattle.indexset_replica.proofs.places.place_of_node.Goals as goal
use Rattle.indexset_replica.proofs.places.place_of_node.Goals.{After-first_reaching-place}

-- where the search ends
found : (g : Over) (c : After-first_reaching-place g) → IsPlaceFor g.T.Ord.cmp (map (λ v. v.items) c.args.nodes.now) c.args.node.now c.in-Some.first.now c.first_reaching-place.result
found g c =
    let cmp = g.T.Ord.cmp in
    let sorted =
    ascending_answer cmp g.met.T.Ord.total c.args.node.now c.is_sorted_by.result
    (c.is_sorted_by.ensures.cases (λ x y. is_lt (cmp x y)) (answers_always _ _ _ (λ f a r f2 k. search rules))) in
    record {
      rule = nodes_ruled cmp _ c.requires;
      head = sym (rw c.in-Some.is at c.first.ensures.value);
      up = sym sorted ∙ c.if-not-is_sorted_by.false;
      is = c.first_reaching-place.ensures.place;
    }

pub returns-in_default-clause-refusal : goal.returns-in_default-clause-refusal
returns-in_default-clause-refusal g c =
    let none = sym (rw c.in_default.is at c.first.ensures.value) in
    refused_empty g.T.Ord.cmp _ _ c.args.node.now none

pub returns-then-not-is_sorted_by-clause-refusal : goal.returns-then-not-is_sorted_by-clause-refusal
returns-then-not-is_sorted_by-clause-refusal g c =
    let cmp = g.T.Ord.cmp in
    let n = c.args.node.now in
    let head = sym (rw c.in-Some.is at c.first.ensures.value) in
    let sorted = ascending_answer cmp g.met.T.Ord.total n c.is_sorted_by.result (c.is_sorted_by.ensures.cases (λ x y. is_lt (cmp x y)) (answers_always _ _ _ (λ f a r f2 k. search rules))) in
    refused_unsorted cmp _ _ n (filled_first n c.in-Some.first.now head) (omega arith) (sym sorted ∙ c.if-not-is_sorted_by.true)

pub returns-then-not-is_lt-clause-refusal : goal.returns-then-not-is_lt-clause-refusal
returns-then-not-is_lt-clause-refusal g c =
    let follows = sym c.item_from.ensures ∙ rw c.in-Some-item_from.is refl in
    let below = sym (c.is_lt.ensures ∙ ap is_lt c.cmp.ensures) ∙ c.if-not-is_lt.true in
    overlaps g.T.Ord.cmp g.met.T.Ord.total _ c.args.node.now _ _
    (found g (goal.at.returns-then-not-is_lt-clause-refusal g c).After-first_reaching-place)
    c.index-node-node.result c.index-node-node.is (Some c.in-Some-item_from.next.now) follows below

pub returns-else-not-is_lt : goal.returns-else-not-is_lt
returns-else-not-is_lt g c =
    let follows = sym c.item_from.ensures ∙ rw c.in-Some-item_from.is refl in
    let below = sym (c.is_lt.ensures ∙ ap is_lt c.cmp.ensures) ∙ c.if-not-is_lt.false in
    let there =
    goes g.T.Ord.cmp g.met.T.Ord.total _ c.args.node.now _ _
    (found g (goal.at.returns-else-not-is_lt g c).After-first_reaching-place) c.index-node-node.result
    c.index-node-node.is (Some c.in-Some-item_from.next.now) follows below in
    record { place = there.place; within = c.first_reaching-place.ensures.within; nodes = there.nodes; good = there.good; refusal = tt }

pub returns-in_default-item_from : goal.returns-in_default-item_from
returns-in_default-item_from g c =
    let none = sym c.item_from.ensures ∙ rw c.in_default-item_from.is refl in
    let there = goes_last g.T.Ord.cmp g.met.T.Ord.total _ c.args.node.now _ _ (found g (goal.at.returns-in_default-item_from g c).After-first_reaching-place) none in
    record { place = there.place; within = c.first_reaching-place.ensures.within; nodes = there.nodes; good = there.good; refusal = tt }
