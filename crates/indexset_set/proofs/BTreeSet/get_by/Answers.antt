use Rattle.std.proofs.Common.{sym, ◌∙◌}
use Rattle.std.specs.Ordering.{is_eq}
use Rattle.indexset_spine.specs.NodeList.{items}
use Rattle.indexset_core.proofs.CallerLemmas.{find_absent, find_position, position_found, position_absent}
use Rattle.indexset_set.proofs.SetProbeLemmas.{parted}
use Rattle.indexset_set.proofs.BTreeSet.get_by.Goals as goal

pub locate_by-spot-requires : goal.locate_by-spot-requires
locate_by-spot-requires g c = parted (g.P.Probe.answer c.args.probe.now) (items c.self.inside.spine) (rw c.self.view_is c.requires)

pub item-requires : goal.item-requires
item-requires g c = c.locate_by-spot.ensures.spot.item c.if-spot.true

pub returns-then-spot-clause-value : goal.returns-then-spot-clause-value
returns-then-spot-clause-value g c =
    let spot = c.locate_by-spot.ensures.spot in
    let at = position_found _ _ _ (parted (g.P.Probe.answer c.args.probe.now) (items c.self.inside.spine) (rw c.self.view_is c.requires)) spot.position (sym spot.found ∙ c.if-spot.true) in
    rw (← c.self.view_is) (sym (find_position _ _ _ at ∙ c.item.ensures))

pub returns-else-spot-clause-value : goal.returns-else-spot-clause-value
returns-else-spot-clause-value g c =
    let spot = c.locate_by-spot.ensures.spot in
    let none = position_absent _ _ _ (parted (g.P.Probe.answer c.args.probe.now) (items c.self.inside.spine) (rw c.self.view_is c.requires)) spot.position (sym spot.found ∙ c.if-spot.false) in
    rw (← c.self.view_is) (sym (find_absent (λ x. is_eq (g.P.Probe.answer c.args.probe.now x)) (items c.self.inside.spine) none))
