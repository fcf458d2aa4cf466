use Rattle.std.proofs.Common.{ℕ, slice_get, ap, ◌∙◌}
use Rattle.std.specs.List.{count_by}
use Rattle.std.specs.Ordering.{is_le}
use Rattle.indexset_spine.specs.NodeList.{items}
use Rattle.indexset_core.proofs.CallerLemmas.{parted_by_sought}
use Rattle.indexset_set.proofs.SetUpperLemmas.{slice_get-not_above}
use Rattle.indexset_set.proofs.BTreeSet.upper_bound.Goals as goal

pub start_of-spot-requires : goal.start_of-spot-requires
start_of-spot-requires g c = parted_by_sought g.met.Q.LookupKey.acts_as_key (items c.self.inside.spine) c.self.invariant c.new.result.0

pub returns : goal.returns
returns g c =
    let l = items c.self.inside.spine in
    let same = ap (λ (t : g.row.Q.Denot × ℕ). count_by (λ x. is_le (g.Q.LookupKey.order x t.0)) l) c.new.ensures in
    rw (← c.self.view_is)
    (c.item_from.ensures ∙ ap (slice_get l) (c.start_of-spot.ensures.position ∙ same)
    ∙ slice_get-not_above g.Q.LookupKey.order l c.args.value
    (parted_by_sought g.met.Q.LookupKey.acts_as_key l c.self.invariant c.args.value))
