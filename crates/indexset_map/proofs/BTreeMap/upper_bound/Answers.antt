use Rattle.std.proofs.Common.{refl, ap}
use Rattle.indexset_spine.specs.NodeList.{items}
use Rattle.indexset_core.proofs.CallerLemmas.{probed_up_to}
use Rattle.indexset_map.proofs.SpanLemmas.{first_past, keys_bounded}
use Rattle.indexset_map.proofs.BTreeMap.upper_bound.Goals as goal

pub cursor_past-requires : goal.cursor_past-requires
cursor_past-requires g c = keys_bounded g.Q.LookupKey.order g.met.Q.LookupKey.acts_as_key (items c.self.inside.set) c.recall_order.ensures.ascending c.map-end.result

pub returns-clause-position : goal.returns-clause-position
returns-clause-position g c =
    let l = items c.self.inside.set in
    let count = probed_up_to g.Q.LookupKey.order (λ k. k.now) (λ p. p.key) l c.as_ref.result c.map-end.result c.map-end.ensures in
    rw (← c.self.view_is, ← c.as_ref.ensures)
    (first_past g.Q.LookupKey.order g.met.Q.LookupKey.acts_as_key l c.recall_order.ensures.ascending _ _ _ _ count
    refl (ap (λ s. s.position) c.cursor_past.ensures))
