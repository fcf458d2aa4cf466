use Rattle.indexset_spine.specs.NodeList.{items}
use Rattle.indexset_set.proofs.SetProbeLemmas.{bound_parted}
use Rattle.indexset_set.proofs.BTreeSet.count_before.Goals as goal

pub start_of-requires : goal.start_of-requires
start_of-requires g c =
    bound_parted g.P.Probe.answer (items c.self.inside.spine) c.args.start (rw (← c.self.view_is) at c.requires)
