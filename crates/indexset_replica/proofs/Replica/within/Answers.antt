use Rattle.std.proofs.Common.{◌≡◌, ◌≤◌, ◌∙◌, ap}
use Rattle.std.specs.List.{between}
use Rattle.std.specs.Range.Bound.{bound_map}
use Rattle.indexset_core.specs.Parted.{IsParted}
use Rattle.indexset_core.specs.Nodes.{concat, vec_items, IsNodeList}
use Rattle.indexset_core.proofs.CallerLemmas.{parted_by_sought, each_bounded, sought_range_is, sought_range_order, probed_before, probed_up_to}
use Rattle.indexset_core.specs.Places.{items_before}
use Rattle.indexset_core.specs.KeyRange.{in_range}
use Rattle.indexset_replica.proofs.Replica.within.Given.{Over}
use Rattle.indexset_replica.proofs.Replica.within.Goals.{After-place_to-to}
use Rattle.indexset_replica.proofs.Replica.within.Goals as goal

-- a search by a key finds the items in order
parted : (g : Over) (c : After-place_to-to g) → (k : _) → IsParted (λ x. g.Q.LookupKey.order x k) (concat (vec_items c.as_slice-nodes.result.now))
parted g c =
    let law : IsNodeList g.T.Ord.cmp (vec_items c.as_slice-nodes.result.now) = rw c.as_slice-nodes.ensures.value c.self.invariant.nodes in
    parted_by_sought g.met.Q.LookupKey.acts_as_key _ law.ascending

-- the range lies between the two places
cut : (g : Over) (c : After-place_to-to g) → let ns = vec_items c.as_slice-nodes.result.now in
    let i = items_before ns c.place_from-from.result in let j = items_before ns c.place_to-to.result in
    (i ≤ j)
    × (between i j (concat ns)
    ≡ in_range g.Q.LookupKey.order (concat ns) (bound_map (λ v. v.now) c.args.range.0)
    (bound_map (λ v. v.now) c.args.range.1))
cut g c =
    let order = g.Q.LookupKey.order in
    let l = concat (vec_items c.as_slice-nodes.result.now) in
    let from = c.place_from-from.ensures.before ∙ probed_before order (λ v. v.now) (λ x. x) l c.args.range.0 c.map.result c.map.ensures in
    let to = c.place_to-to.ensures.before ∙ probed_up_to order (λ v. v.now) (λ x. x) l c.args.range.1 c.map-2.result c.map-2.ensures in (
      sought_range_order order (λ x. x) l (parted g c) g.met.Q.LookupKey.acts_as_key _ _ c.requires _ _ from to,
      sought_range_is order (λ x. x) l (parted g c) g.met.Q.LookupKey.acts_as_key _ _ c.requires _ _ from to,
    )

pub place_from-from-requires-clause-parted : goal.place_from-from-requires-clause-parted
place_from-from-requires-clause-parted g c =
    let law : IsNodeList g.T.Ord.cmp (vec_items c.as_slice-nodes.result.now) = rw c.as_slice-nodes.ensures.value c.self.invariant.nodes in
    each_bounded _ (λ p. parted_by_sought g.met.Q.LookupKey.acts_as_key _ law.ascending p.0) c.map.result

pub place_to-to-requires-clause-parted : goal.place_to-to-requires-clause-parted
place_to-to-requires-clause-parted g c =
    let law : IsNodeList g.T.Ord.cmp (vec_items c.as_slice-nodes.result.now) = rw c.as_slice-nodes.ensures.value c.self.invariant.nodes in
    each_bounded _ (λ p. parted_by_sought g.met.Q.LookupKey.acts_as_key _ law.ascending p.0) c.map-2.result

pub between-requires-clause-order : goal.between-requires-clause-order
between-requires-clause-order g c = (cut g c).0

pub returns : goal.returns
returns g c =
    let order = g.Q.LookupKey.order in
    let start = bound_map (λ v. v.now) c.args.range.0 in
    let end = bound_map (λ v. v.now) c.args.range.1 in
    c.between.ensures
    ∙ ((cut g (goal.at.returns g c).After-place_to-to).1
    ∙ (ap (λ vs. in_range order (concat (vec_items vs)) start end) c.as_slice-nodes.ensures.value ∙ ap (λ r. in_range order (concat r.nodes) start end) c.self.view_is))
