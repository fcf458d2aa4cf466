use Rattle.indexset_spine.specs.NodeList.{items}
use Rattle.indexset_set.proofs.SetProbeLemmas.{bound_parted}
use Rattle.indexset_set.proofs.BTreeSet.count_up_to.Goals as goal

pub end_of-requires : goal.end_of-requires
end_of-requires g c =
    bound_parted g.P.Probe.answer (items c.self.inside.spine) c.args.end (rw (← c.self.view_is) at c.requires)
