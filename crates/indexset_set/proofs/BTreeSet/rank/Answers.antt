use Rattle.std.proofs.Common.{slice_get, ap, ◌∙◌}
use Rattle.indexset_spine.specs.NodeList.{items}
use Rattle.indexset_core.proofs.CallerLemmas.{equal_sought}
use Rattle.indexset_set.proofs.BTreeSet.rank.Goals as goal

pub returns-clause-at_rank : goal.returns-clause-at_rank
returns-clause-at_rank g c =
    let l = items c.self.inside.spine in
    rw (← c.self.view_is) (λ has. ap (slice_get l) (c.position.ensures ∙ c.locate.ensures.position) ∙ equal_sought g.met.Q.LookupKey.acts_as_key l c.self.invariant c.args.value has)
