use Rattle.indexset_spine.specs.NodeList.{items}
use Rattle.indexset_set.proofs.SetProbeLemmas.{parted}
use Rattle.indexset_set.proofs.inner.spots.spot_by.Goals as goal

pub locate_by-requires : goal.locate_by-requires
locate_by-requires g c = parted (g.P.Probe.answer c.args.probe.now) (items c.set.inside.spine) (rw c.set.view_is c.requires)

pub returns-clause-spot : goal.returns-clause-spot
returns-clause-spot g c = rw (← c.set.view_is) c.locate_by.ensures.spot
