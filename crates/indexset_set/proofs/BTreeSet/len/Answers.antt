use Rattle.indexset_spine.specs.NodeList.{items}
use Rattle.indexset_core.proofs.CallerLemmas.{parted_by_item}
use Rattle.indexset_set.proofs.SetProbeLemmas.{in_order}
use Rattle.indexset_set.proofs.BTreeSet.len.Goals as goal

pub returns-clause-in_order : goal.returns-clause-in_order
returns-clause-in_order g c =
    rw (← c.self.view_is) (λ v.
    in_order (λ x. g.T.Ord.cmp x v) (items c.self.inside.spine)
    (parted_by_item g.T.Ord.cmp g.met.T.Ord.total (items c.self.inside.spine) c.self.invariant v))
