use Rattle.std.proofs.Common.{◌∙◌, sym}
use Rattle.indexset_spine.specs.NodeList.{items}
use Rattle.indexset_spine.proofs.CallerLemmas.{place_position}
use Rattle.indexset_core.proofs.CallerLemmas.{probed_before}
use Rattle.indexset_map.proofs.SpanLemmas.{keys_bounded}
use Rattle.indexset_map.proofs.BTreeMap.start_spot.Goals as goal

pub start_of-spot-requires : goal.start_of-spot-requires
start_of-spot-requires g c = keys_bounded g.Q.LookupKey.order g.met.Q.LookupKey.acts_as_key (items c.self.inside.set) c.recall_order.ensures.ascending c.map.result

pub returns-clause-place : goal.returns-clause-place
returns-clause-place g c =
    rw (← c.self.view_is) (c.position-position.ensures ∙ sym (place_position c.self.inside.set.nodes c.start_of-spot.result))

pub returns-clause-position : goal.returns-clause-position
returns-clause-position g c =
    rw (← c.self.view_is)
    (c.position-position.ensures ∙ c.start_of-spot.ensures.position ∙ probed_before g.Q.LookupKey.order (λ k. k.now) (λ p. p.key) (items c.self.inside.set) c.args.start c.map.result c.map.ensures)
