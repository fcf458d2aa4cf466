use Rattle.indexset_spine.specs.NodeList.{items}
use Rattle.indexset_core.proofs.CallerLemmas.{parted_by_key}
use Rattle.indexset_set.proofs.CallerLemmas.{in_order}
use Rattle.indexset_map.proofs.BTreeMap.len.Goals as goal

pub returns-clause-in_order : goal.returns-clause-in_order
returns-clause-in_order g c =
    let l = items c.self.inside.set in
    rw (← c.self.view_is) (λ k. in_order (λ p. g.K.Ord.cmp p.key k) l (parted_by_key g.K.Ord.cmp g.met.K.Ord.total l c.len.ensures.ascending k))
