use Rattle.std.proofs.Common.{ap, is_some, ◌∙◌}
use Rattle.std.specs.Ordering.{is_eq}
use Rattle.indexset_spine.specs.NodeList.{items}
use Rattle.indexset_core.proofs.CallerLemmas.{is_some-find}
use Rattle.indexset_set.proofs.BTreeSet.remove.Goals as goal

pub returns-clause-removed : goal.returns-clause-removed
returns-clause-removed g c =
    c.is_some.ensures ∙ ap is_some c.take.ensures.value ∙ is_some-find (λ x. is_eq (g.Q.LookupKey.order x c.args.value)) (items c.args.self.now)
