use Rattle.std.proofs.Common.{refl, sym, ap, ◌∙◌, inl}
use Rattle.std.specs.Option.{option_map}
use Rattle.std.specs.Ordering.{is_eq}
use Rattle.indexset_spine.specs.NodeList.{items}
use Rattle.indexset_core.proofs.CallerLemmas.{find_absent, find_position, position_found, position_absent}
use Rattle.indexset_set.specs.SetPairs.{with_value_at}
use Rattle.indexset_set.proofs.SetProbeLemmas.{parted}
use Rattle.indexset_set.proofs.pairs.BTreeSet+Pair+K+V.value_mut_by.Goals as goal

pub locate_by-spot-requires : goal.locate_by-spot-requires
locate_by-spot-requires g c = parted (g.P.Probe.answer c.args.probe.now) (items c.self.inside.spine) (rw c.self.view_is c.requires)

pub value_in-requires : goal.value_in-requires
value_in-requires g c = rw (← c.self.view_is) (c.locate_by-spot.ensures.spot.item c.if-spot.true)

pub returns-then-spot : goal.returns-then-spot
returns-then-spot g c =
    let spot = c.locate_by-spot.ensures.spot in
    let at = position_found _ _ _ (parted (g.P.Probe.answer c.args.probe.now) (items c.self.inside.spine) (rw c.self.view_is c.requires)) spot.position (sym spot.found ∙ c.if-spot.true) in (
      ap (λ i. inl (c.value_in.result.ghost_name, with_value_at c.args.self.now i)) (rw (← c.self.view_is) spot.position),
      record {
        writes_back = tt;
        value = sym (ap (option_map (λ p. p.value)) (rw (← c.self.view_is) (find_position _ _ _ at)) ∙ c.value_in.ensures.value);
        fixed = c.locate_by-spot.ensures.fixed;
        comparisons = rw (← c.self.view_is) c.locate_by-spot.ensures.comparisons;
      },
    )

pub returns-else-spot : goal.returns-else-spot
returns-else-spot g c =
    let spot = c.locate_by-spot.ensures.spot in
    let none = position_absent _ _ _ (parted (g.P.Probe.answer c.args.probe.now) (items c.self.inside.spine) (rw c.self.view_is c.requires)) spot.position (sym spot.found ∙ c.if-spot.false) in (
      refl,
      record {
        writes_back = tt;
        value = rw (← c.self.view_is) (sym (ap (option_map (λ p. p.value)) (find_absent (λ x. is_eq (g.P.Probe.answer c.args.probe.now x)) (items c.self.inside.spine) none)));
        fixed = c.locate_by-spot.ensures.fixed;
        comparisons = rw (← c.self.view_is) c.locate_by-spot.ensures.comparisons;
      },
    )
