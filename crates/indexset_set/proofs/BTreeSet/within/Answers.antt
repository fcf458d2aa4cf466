use Rattle.std.proofs.Common.{◌∙◌}
use Rattle.indexset_spine.specs.NodeList.{items}
use Rattle.indexset_core.proofs.CallerLemmas.{each_bounded, parted_by_sought, probed_before, probed_up_to, sought_range_order, sought_range_is}
use Rattle.indexset_core.proofs.CallerLemmas.{between_up}
use Rattle.indexset_set.proofs.BTreeSet.within.Goals as goal

pub start_of-from-requires : goal.start_of-from-requires
start_of-from-requires g c = each_bounded _ (λ p. parted_by_sought g.met.Q.LookupKey.acts_as_key (items c.self.inside.spine) c.self.invariant p.0) c.map.result

pub end_of-to-requires : goal.end_of-to-requires
end_of-to-requires g c = each_bounded _ (λ p. parted_by_sought g.met.Q.LookupKey.acts_as_key (items c.self.inside.spine) c.self.invariant p.0) c.map-2.result

pub returns-clause-ascending : goal.returns-clause-ascending
returns-clause-ascending g c = rw (c.of.ensures, c.iter_from_to.ensures.rest) (between_up g.T.Ord.cmp _ _ _ c.self.invariant)

pub iter_from_to-requires-clause-order : goal.iter_from_to-requires-clause-order
iter_from_to-requires-clause-order g c =
    let l = items c.self.inside.spine in
    sought_range_order g.Q.LookupKey.order (λ x. x) l (parted_by_sought g.met.Q.LookupKey.acts_as_key l c.self.invariant) g.met.Q.LookupKey.acts_as_key _ _ c.requires _ _
    (c.start_of-from.ensures.position ∙ probed_before g.Q.LookupKey.order (λ v. v.now) (λ x. x) l c.args.start _ c.map.ensures)
    (c.end_of-to.ensures.position ∙ probed_up_to g.Q.LookupKey.order (λ v. v.now) (λ x. x) l c.args.end _ c.map-2.ensures)

pub returns-clause-rest : goal.returns-clause-rest
returns-clause-rest g c =
    let l = items c.self.inside.spine in
    rw (← c.self.view_is)
    (c.of.ensures ∙ c.iter_from_to.ensures.rest
    ∙ sought_range_is g.Q.LookupKey.order (λ x. x) l
    (parted_by_sought g.met.Q.LookupKey.acts_as_key l c.self.invariant) g.met.Q.LookupKey.acts_as_key _ _ c.requires
    _ _
    (c.start_of-from.ensures.position ∙ probed_before g.Q.LookupKey.order (λ v. v.now) (λ x. x) l c.args.start _ c.map.ensures)
    (c.end_of-to.ensures.position ∙ probed_up_to g.Q.LookupKey.order (λ v. v.now) (λ x. x) l c.args.end _ c.map-2.ensures))
