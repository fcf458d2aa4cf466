use Rattle.std.proofs.Common.{slice_get, ap, sym, ◌∙◌}
use Rattle.indexset_spine.specs.NodeList.{items}
use Rattle.indexset_core.proofs.CallerLemmas.{found_equal}
use Rattle.indexset_set.proofs.BTreeSet.index_of.Goals as goal

pub returns-then-spot-clause-at_index : goal.returns-then-spot-clause-at_index
returns-then-spot-clause-at_index g c =
    let there = rw c.if-spot.true at c.locate-spot.ensures.found in
    rw (← c.self.view_is) (ap (slice_get (items c.self.inside.spine)) c.position.ensures ∙ sym (found_equal _ _ _ _ there))
