use Rattle.std.proofs.Common.{◌≡◌, ◌≤◌, ◌∙◌, ap}
use Rattle.std.specs.List.{between}
use Rattle.std.specs.Range.Bound.{bound_map}
use Rattle.indexset_core.specs.Nodes.{concat}
use Rattle.indexset_core.proofs.CallerLemmas.{each_bounded, sought_range_is, sought_range_order, probed_before, probed_up_to}
use Rattle.indexset_core.specs.Places.{items_before}
use Rattle.indexset_multi.specs.Keys.{pairs_between}
use Rattle.indexset_multi.proofs.SearchLemmas.{sought_keys}
use Rattle.indexset_multi.proofs.multimap.BTreeMultiMap.pairs_between.Given.{Over}
use Rattle.indexset_multi.proofs.multimap.BTreeMultiMap.pairs_between.Goals.{After-place_to-to}
use Rattle.indexset_multi.proofs.multimap.BTreeMultiMap.pairs_between.Goals as goal

-- the range lies between the two places
cut : (g : Over) (c : After-place_to-to g) → let s = c.self.inside.set in
    let i = items_before s.nodes c.place_from-from.result in let j = items_before s.nodes c.place_to-to.result in
    (i ≤ j)
    × (between i j (concat s.nodes)
    ≡ pairs_between g.Q.LookupKey.order (concat s.nodes) (bound_map (λ k. k.now) c.args.range.0)
    (bound_map (λ k. k.now) c.args.range.1))
cut g c =
    let order = g.Q.LookupKey.order in
    let s = c.self.inside.set in
    let l = concat s.nodes in
    let parted = sought_keys g.K.Ord.cmp s.size s.nodes c.recall_invariant.ensures.tree.lawful g.met.Q.LookupKey.acts_as_key in
    let from = c.place_from-from.ensures.before ∙ probed_before order (λ k. k.now) (λ x. x.key) l c.args.range.0 c.map.result c.map.ensures in
    let to = c.place_to-to.ensures.before ∙ probed_up_to order (λ k. k.now) (λ x. x.key) l c.args.range.1 c.map-2.result c.map-2.ensures in (
      sought_range_order order (λ p. p.key) l parted g.met.Q.LookupKey.acts_as_key _ _ c.requires _ _ from to,
      sought_range_is order (λ p. p.key) l parted g.met.Q.LookupKey.acts_as_key _ _ c.requires _ _ from to,
    )

pub place_from-from-requires : goal.place_from-from-requires
place_from-from-requires g c =
    each_bounded _ (λ p.
    sought_keys g.K.Ord.cmp c.self.inside.set.size c.self.inside.set.nodes c.recall_invariant.ensures.tree.lawful
    g.met.Q.LookupKey.acts_as_key p.0)
    c.map.result

pub place_to-to-requires : goal.place_to-to-requires
place_to-to-requires g c =
    each_bounded _ (λ p.
    sought_keys g.K.Ord.cmp c.self.inside.set.size c.self.inside.set.nodes c.recall_invariant.ensures.tree.lawful
    g.met.Q.LookupKey.acts_as_key p.0)
    c.map-2.result

pub range_between-requires-clause-order : goal.range_between-requires-clause-order
range_between-requires-clause-order g c = (cut g c).0

pub returns-clause-rest : goal.returns-clause-rest
returns-clause-rest g c =
    let same : c.self.inside.set.nodes ≡ c.args.self.now.nodes = ap (λ m. m.nodes) c.self.view_is in
    rw (← same, c.range_between.ensures.rest) (cut g (goal.at.returns-clause-rest g c).After-place_to-to).1
