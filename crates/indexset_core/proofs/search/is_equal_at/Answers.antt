use Rattle.std.proofs.Common.{false, ap, sym, ◌∙◌}
use Rattle.std.specs.Option.{option_map_or}
use Rattle.std.specs.Ordering.{is_eq}
use Rattle.std.proofs.lemmas.Option.{slice_get_past}
use Rattle.indexset_core.proofs.OrderLemmas.{read_item}
use Rattle.indexset_core.proofs.search.is_equal_at.Goals as goal

pub returns-in-Some-clause-found : goal.returns-in-Some-clause-found
returns-in-Some-clause-found g c =
    let found = c.in-Some.ensures.lookup in
    c.is_eq.ensures
    ∙ (ap is_eq c.place.ensures.answer
    ∙ sym (ap (λ o. option_map_or (λ x. is_eq (g.P.Probe.answer c.args.probe.now x)) o false) (read_item c.args.items.now c.args.index c.in-Some.item.now found.3.0 found.1)))

pub returns-in-None-clause-found : goal.returns-in-None-clause-found
returns-in-None-clause-found g c = sym (ap (λ o. option_map_or (λ x. is_eq (g.P.Probe.answer c.args.probe.now x)) o false) (slice_get_past c.args.items.now c.args.index c.in-None.ensures.lookup.3))
