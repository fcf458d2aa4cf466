use Rattle.std.proofs.Common.{sym, ◌∙◌}
use Rattle.indexset_spine.specs.NodeList.{items}
use Rattle.indexset_core.proofs.CallerLemmas.{position_found, position_absent}
use Rattle.indexset_set.proofs.SetProbeLemmas.{parted}
use Rattle.indexset_set.proofs.BTreeSet.locate_by.Goals as goal

pub locate_by-spot-requires : goal.locate_by-spot-requires
locate_by-spot-requires g c = parted (g.P.Probe.answer c.args.probe.now) (items c.self.inside.spine) (rw c.self.view_is c.requires)

pub returns-then-spot-clause-found : goal.returns-then-spot-clause-found
returns-then-spot-clause-found g c =
    let spot = c.locate_by-spot.ensures.spot in
    rw (← c.self.view_is, c.position-position.ensures)
    (position_found _ _ _
    (parted (g.P.Probe.answer c.args.probe.now) (items c.self.inside.spine) (rw c.self.view_is c.requires))
    spot.position (sym spot.found ∙ c.if-spot.true))

pub returns-else-spot-clause-absent : goal.returns-else-spot-clause-absent
returns-else-spot-clause-absent g c =
    let spot = c.locate_by-spot.ensures.spot in
    rw (← c.self.view_is)
    (position_absent _ _ _
    (parted (g.P.Probe.answer c.args.probe.now) (items c.self.inside.spine) (rw c.self.view_is c.requires))
    spot.position (sym spot.found ∙ c.if-spot.false))
