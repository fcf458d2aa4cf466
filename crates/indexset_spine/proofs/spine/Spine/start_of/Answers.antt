use Rattle.std.proofs.Common.{◌≡◌, sym, subst}
use Rattle.std.specs.List.{count_by}
use Rattle.indexset_core.specs.KeyRange.{IfBounded, is_before}
use Rattle.indexset_core.specs.Parted.{IsParted}
use Rattle.indexset_core.specs.Places.{items_before}
use Rattle.indexset_spine.specs.NodeList.{NodeList, items}
use Rattle.indexset_spine.proofs.spine.Spine.start_of.Goals as goal

pub place_from-place-requires-clause-parted : goal.place_from-place-requires-clause-parted
place_from-place-requires-clause-parted g c =
    rw c.as_slice.ensures.value
    (subst (λ (t : NodeList g.row.T.Denot). IfBounded (λ p. IsParted (g.P.Probe.answer p) (items t)) c.args.start)
    (sym c.self.view_is) c.requires)

pub returns-clause-position : goal.returns-clause-position
returns-clause-position g c =
    rw c.spot_at.ensures
    (subst
    (λ (t : NodeList g.row.T.Denot). items_before t.nodes c.place_from-place.result
    ≡ count_by (is_before (λ x p. g.P.Probe.answer p x) c.args.start) (items t))
    c.self.view_is (rw c.as_slice.ensures.value at c.place_from-place.ensures.before))
