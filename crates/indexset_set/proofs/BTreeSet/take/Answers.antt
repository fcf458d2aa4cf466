use Rattle.std.proofs.Common.{refl, sym, ◌∙◌}
use Rattle.indexset_core.proofs.CallerLemmas.{found_equal, found_has_equal, gap_equal, gap_has_equal, gap_without, has_none, remove_ascending, sought_without}
use Rattle.indexset_set.proofs.SetNodeLemmas.{without_there, without_none}
use Rattle.indexset_set.proofs.BTreeSet.take.Goals as goal

pub remove-requires : goal.remove-requires
remove-requires g c = c.locate-spot.ensures.item c.if-spot.true

pub invariant_of-self : goal.invariant_of-self
invariant_of-self g c =
    let there = rw c.if-spot.true at c.locate-spot.ensures.found in
    rw c.remove.ensures.items (remove_ascending g.T.Ord.cmp _ _ there.inside c.self.invariant)

pub returns-then-spot : goal.returns-then-spot
returns-then-spot g c =
    let there = rw c.if-spot.true at c.locate-spot.ensures.found in
    let rest = c.remove.ensures.items ∙ sym (sought_without g.met.T.Ord.total g.met.Q.UniqueKey.equals_at_most_one _ _ _ c.self.invariant there) in
    rw (← c.self.view_is) (record {
      value = sym (found_equal _ _ _ _ there ∙ c.remove.ensures.value);
      rest = rest;
      gone = rw rest (has_none g.Q.LookupKey.order _ _);
      nodes = without_there g.Q.LookupKey.order c.self.inside.spine c.args.value c.locate-spot.result _ c.locate-spot.ensures.place (found_has_equal _ _ _ _ there) c.remove.ensures.nodes;
      size = c.remove.ensures.size;
    })

pub returns-else-spot : goal.returns-else-spot
returns-else-spot g c =
    let gap = rw c.if-spot.false at c.locate-spot.ensures.gap in
    let absent = gap_has_equal _ _ _ _ gap in
    rw (← c.self.view_is) (record {
      value = sym (gap_equal _ _ _ _ gap);
      rest = sym (gap_without _ _ _ _ gap);
      gone = absent;
      nodes = sym (without_none g.Q.LookupKey.order c.self.inside.spine c.args.value absent);
      size = refl;
    })
