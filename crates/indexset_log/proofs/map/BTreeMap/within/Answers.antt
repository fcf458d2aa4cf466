use Rattle.std.proofs.Common.{◌≡◌, ◌≤◌, ◌∙◌}
use Rattle.std.specs.List.{between}
use Rattle.std.specs.Range.Bound.{bound_map}
use Rattle.indexset_core.specs.Nodes.{concat}
use Rattle.indexset_core.specs.Pairs.{by_key, pairs_within}
use Rattle.indexset_core.proofs.CallerLemmas.{each_bounded, parted_by_sought_key, probed_before, probed_up_to, sought_keys_are, sought_keys_order}
use Rattle.indexset_core.specs.Places.{items_before}
use Rattle.indexset_events.proofs.CallerLemmas.{lawful_ascends}
use Rattle.indexset_log.proofs.map.BTreeMap.within.Given.{Over}
use Rattle.indexset_log.proofs.map.BTreeMap.within.Goals.{After-place_to-to}
use Rattle.indexset_log.proofs.map.BTreeMap.within.Goals as goal

-- the range lies between the two places
cut : (g : Over) (c : After-place_to-to g)
    → let i = items_before c.self.inside.set.nodes c.place_from-from.result in
    let j = items_before c.self.inside.set.nodes c.place_to-to.result in let l = concat c.self.inside.set.nodes in
    (i ≤ j)
    × (between i j l
    ≡ pairs_within g.Q.LookupKey.order l (bound_map (λ k. k.now) c.args.range.0)
    (bound_map (λ k. k.now) c.args.range.1))
cut g c =
    let order = g.Q.LookupKey.order in
    let l = concat c.self.inside.set.nodes in
    let up = lawful_ascends (by_key g.K.Ord.cmp) c.self.inside.set.size c.self.inside.set.nodes c.recall_invariant.ensures.tree.lawful in
    let from = c.place_from-from.ensures.before ∙ probed_before order (λ k. k.now) (λ x. x.key) l c.args.range.0 c.map.result c.map.ensures in
    let to = c.place_to-to.ensures.before ∙ probed_up_to order (λ k. k.now) (λ x. x.key) l c.args.range.1 c.map-2.result c.map-2.ensures in
    (sought_keys_order g.met.Q.LookupKey.acts_as_key l up _ _ c.requires _ _ from to, sought_keys_are g.met.Q.LookupKey.acts_as_key l up _ _ c.requires _ _ from to)

pub place_from-from-requires : goal.place_from-from-requires
place_from-from-requires g c =
    each_bounded _ (λ p.
    parted_by_sought_key g.met.Q.LookupKey.acts_as_key (concat c.self.inside.set.nodes)
    (lawful_ascends (by_key g.K.Ord.cmp) c.self.inside.set.size c.self.inside.set.nodes
    c.recall_invariant.ensures.tree.lawful)
    p.0)
    c.map.result

pub place_to-to-requires : goal.place_to-to-requires
place_to-to-requires g c =
    each_bounded _ (λ p.
    parted_by_sought_key g.met.Q.LookupKey.acts_as_key (concat c.self.inside.set.nodes)
    (lawful_ascends (by_key g.K.Ord.cmp) c.self.inside.set.size c.self.inside.set.nodes
    c.recall_invariant.ensures.tree.lawful)
    p.0)
    c.map-2.result

pub range_between-requires-clause-order : goal.range_between-requires-clause-order
range_between-requires-clause-order g c = (cut g c).0

pub returns : goal.returns
returns g c = c.rest.view_is ∙ rw (← c.self.view_is) (c.range_between.ensures.rest ∙ (cut g (goal.at.returns g c).After-place_to-to).1)
