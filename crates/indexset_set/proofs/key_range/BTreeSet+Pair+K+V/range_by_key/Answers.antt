use Rattle.std.proofs.Common.{◌∙◌}
use Rattle.indexset_core.specs.Pairs.{by_key}
use Rattle.indexset_spine.specs.NodeList.{items}
use Rattle.indexset_core.proofs.CallerLemmas.{each_bounded, parted_by_sought_key, probed_before, probed_up_to, sought_keys_are, sought_keys_order}
use Rattle.indexset_core.proofs.CallerLemmas.{between_up}
use Rattle.indexset_set.proofs.key_range.BTreeSet+Pair+K+V.range_by_key.Goals as goal

pub start_of-from-requires : goal.start_of-from-requires
start_of-from-requires g c = each_bounded _ (λ p. parted_by_sought_key g.met.Q.LookupKey.acts_as_key (items c.self.inside.spine) c.self.invariant p.0) c.map.result

pub end_of-to-requires : goal.end_of-to-requires
end_of-to-requires g c = each_bounded _ (λ p. parted_by_sought_key g.met.Q.LookupKey.acts_as_key (items c.self.inside.spine) c.self.invariant p.0) c.map-2.result

pub returns-clause-ascending : goal.returns-clause-ascending
returns-clause-ascending g c = rw (c.of.ensures, c.iter_from_to.ensures.rest) (between_up (by_key g.K.Ord.cmp) _ _ _ c.self.invariant)

pub iter_from_to-requires-clause-order : goal.iter_from_to-requires-clause-order
iter_from_to-requires-clause-order g c =
    let l = items c.self.inside.spine in
    sought_keys_order g.met.Q.LookupKey.acts_as_key l c.self.invariant _ _ c.requires _ _
    (c.start_of-from.ensures.position ∙ probed_before g.Q.LookupKey.order (λ k. k.now) (λ p. p.key) l c.args.range.0 _ c.map.ensures)
    (c.end_of-to.ensures.position ∙ probed_up_to g.Q.LookupKey.order (λ k. k.now) (λ p. p.key) l c.args.range.1 _ c.map-2.ensures)

pub returns-clause-rest : goal.returns-clause-rest
returns-clause-rest g c =
    let l = items c.self.inside.spine in
    rw (← c.self.view_is) (c.of.ensures ∙ c.iter_from_to.ensures.rest ∙ sought_keys_are g.met.Q.LookupKey.acts_as_key l c.self.invariant _ _ c.requires _ _
    (c.start_of-from.ensures.position ∙ probed_before g.Q.LookupKey.order (λ k. k.now) (λ p. p.key) l c.args.range.0 _ c.map.ensures)
    (c.end_of-to.ensures.position ∙ probed_up_to g.Q.LookupKey.order (λ k. k.now) (λ p. p.key) l c.args.range.1 _ c.map-2.ensures))
