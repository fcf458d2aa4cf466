use Rattle.std.proofs.Common.{◌≡◌, ◌∙◌, arith, count_by, sym}
use Rattle.std.specs.Range.Bound.{bound_map}
use Rattle.indexset_core.specs.KeyRange.{is_before, is_up_to_end}
use Rattle.indexset_core.proofs.CallerLemmas.{each_bounded, parted_by_sought, probed_before, probed_up_to, sought_range_order, sought_range_is}
use Rattle.indexset_spine.specs.NodeList.{items, position_of}
use Rattle.indexset_set.proofs.SetCursorLemmas.{before_node, position_le}
use Rattle.indexset_set.proofs.BTreeSet.stretch.Given.{Over}
use Rattle.indexset_set.proofs.BTreeSet.stretch.Goals.{After-position}
use Rattle.indexset_set.proofs.BTreeSet.stretch.Goals as goal

pub start_of-from-requires : goal.start_of-from-requires
start_of-from-requires g c = each_bounded _ (λ p. parted_by_sought g.met.Q.LookupKey.acts_as_key (items c.self.inside.spine) c.self.invariant p.0) c.map.result

pub end_of-to-requires : goal.end_of-to-requires
end_of-to-requires g c = each_bounded _ (λ p. parted_by_sought g.met.Q.LookupKey.acts_as_key (items c.self.inside.spine) c.self.invariant p.0) c.map-2.result

module _ (g : Over) (c : After-position g) where
  from : c.position-front.result ≡ count_by (λ x. is_before g.Q.LookupKey.order (bound_map (λ v. v.now) c.args.start) x) (items c.self.inside.spine)
  from =
      c.position-front.ensures ∙ (c.start_of-from.ensures.position ∙ probed_before g.Q.LookupKey.order (λ v. v.now) (λ x. x) (items c.self.inside.spine) c.args.start _ c.map.ensures)

  to : c.position.result ≡ count_by (λ x. is_up_to_end g.Q.LookupKey.order (bound_map (λ v. v.now) c.args.end) x) (items c.self.inside.spine)
  to =
      c.position.ensures ∙ (c.end_of-to.ensures.position ∙ probed_up_to g.Q.LookupKey.order (λ v. v.now) (λ x. x) (items c.self.inside.spine) c.args.end _ c.map-2.ensures)

pub returns-clause-at : goal.returns-clause-at
returns-clause-at g c =
    let l = items c.self.inside.spine in
    rw (← c.self.view_is) (record {
      order =
          sought_range_order g.Q.LookupKey.order (λ x. x) l
          (parted_by_sought g.met.Q.LookupKey.acts_as_key l c.self.invariant) g.met.Q.LookupKey.acts_as_key _ _
          c.requires _ _ (from g c) (to g c);
      inside = omega (arith, c.position.ensures, position_le c.self.inside.spine.nodes c.end_of-to.result c.end_of-to.ensures.spot);
      start = before_node c.self.inside.spine.nodes c.start_of-from.result _ (sym c.position-front.ensures);
    })

pub returns-clause-rest : goal.returns-clause-rest
returns-clause-rest g c =
    let l = items c.self.inside.spine in
    rw (← c.self.view_is)
    (sought_range_is g.Q.LookupKey.order (λ x. x) l
    (parted_by_sought g.met.Q.LookupKey.acts_as_key l c.self.invariant) g.met.Q.LookupKey.acts_as_key _ _ c.requires
    _ _ (from g c) (to g c))
