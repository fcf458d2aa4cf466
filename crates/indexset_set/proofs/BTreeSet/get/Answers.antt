use Rattle.std.proofs.Common.{sym, ◌∙◌}
use Rattle.indexset_core.proofs.CallerLemmas.{found_equal, gap_equal}
use Rattle.indexset_set.proofs.BTreeSet.get.Goals as goal

pub returns-then-not-spot : goal.returns-then-not-spot
returns-then-not-spot g c =
    let gap = rw c.if-not-spot.true at c.locate-spot.ensures.gap in
    rw (← c.self.view_is) (sym (gap_equal _ _ _ _ gap))

pub item-requires : goal.item-requires
item-requires g c = c.locate-spot.ensures.item c.if-not-spot.false

pub returns : goal.returns
returns g c =
    let there = rw c.if-not-spot.false at c.locate-spot.ensures.found in
    rw (← c.self.view_is) (sym (found_equal _ _ _ _ there ∙ c.item.ensures))
