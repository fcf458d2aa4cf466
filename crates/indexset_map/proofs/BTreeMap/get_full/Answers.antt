use Rattle.std.proofs.Common.{Some, refl, sym, ap, ◌∙◌}
use Rattle.std.specs.Option.{option_map}
use Rattle.indexset_core.specs.Pairs.{entry_of}
use Rattle.indexset_core.proofs.CallerLemmas.{key_absent, key_no_pair, key_pair, key_there}
use Rattle.indexset_spine.proofs.CallerLemmas.{place_position}
use Rattle.indexset_spine.specs.Lengths.{place_of}
use Rattle.indexset_map.proofs.BTreeMap.get_full.Goals as goal

pub pair_in-requires : goal.pair_in-requires
pair_in-requires g c = c.spot-spot.ensures.spot.item c.if-spot.true

pub returns-then-spot-clause-index : goal.returns-then-spot-clause-index
returns-then-spot-clause-index g c =
    let spot = c.spot-spot.ensures.spot in
    let place = c.position.ensures ∙ (sym (place_position c.self.inside.set.nodes c.spot-spot.result) ∙ (ap (λ m. place_of m.lengths c.spot-spot.result) c.self.view_is ∙ spot.rank)) in
    rw (key_there g.Q.LookupKey.order _ _ _ (spot.found c.if-spot.true)) (ap Some place)

pub returns-then-spot-clause-entry : goal.returns-then-spot-clause-entry
returns-then-spot-clause-entry g c =
    sym (ap (option_map entry_of) (key_pair g.Q.LookupKey.order _ _ _ (c.spot-spot.ensures.spot.found c.if-spot.true)) ∙ c.pair_in.ensures)

pub returns-else-spot-clause-index : goal.returns-else-spot-clause-index
returns-else-spot-clause-index g c = rw (key_absent g.Q.LookupKey.order _ _ (c.spot-spot.ensures.spot.absent c.if-spot.false)) refl

pub returns-else-spot-clause-entry : goal.returns-else-spot-clause-entry
returns-else-spot-clause-entry g c = sym (ap (option_map entry_of) (key_no_pair g.Q.LookupKey.order _ _ (c.spot-spot.ensures.spot.absent c.if-spot.false)))
