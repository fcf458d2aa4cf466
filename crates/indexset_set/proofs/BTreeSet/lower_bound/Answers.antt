use Rattle.std.proofs.Common.{slice_get, ap, ◌∙◌}
use Rattle.indexset_spine.specs.NodeList.{items}
use Rattle.indexset_core.proofs.CallerLemmas.{lower_sought}
use Rattle.indexset_set.proofs.BTreeSet.lower_bound.Goals as goal

pub returns : goal.returns
returns g c =
    let l = items c.self.inside.spine in
    rw (← c.self.view_is) (c.item_from.ensures ∙ ap (slice_get l) c.locate.ensures.position ∙ lower_sought g.met.Q.LookupKey.acts_as_key l c.self.invariant c.args.value)
