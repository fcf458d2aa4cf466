use Rattle.std.proofs.Common.{sym, ◌∙◌}
use Rattle.indexset_core.proofs.CallerLemmas.{found_equal, gap_equal}
use Rattle.indexset_set.proofs.BTreeSet.get_full.Goals as goal

pub item-requires : goal.item-requires
item-requires g c = c.locate-spot.ensures.item c.if-spot.true

pub returns-then-spot-clause-element : goal.returns-then-spot-clause-element
returns-then-spot-clause-element g c =
    let there = rw c.if-spot.true at c.locate-spot.ensures.found in
    rw (← c.self.view_is) (sym (found_equal _ _ _ _ there ∙ c.item.ensures))

pub returns-else-spot-clause-element : goal.returns-else-spot-clause-element
returns-else-spot-clause-element g c =
    let gap = rw c.if-spot.false at c.locate-spot.ensures.gap in
    rw (← c.self.view_is) (sym (gap_equal _ _ _ _ gap))
