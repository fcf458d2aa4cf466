use Rattle.std.proofs.Common.{◌∙◌}
use Rattle.indexset_spine.specs.NodeList.{items}
use Rattle.indexset_core.proofs.CallerLemmas.{probed_up_to}
use Rattle.indexset_map.proofs.SpanLemmas.{keys_bounded}
use Rattle.indexset_map.proofs.BTreeMap.end_position.Goals as goal

pub count_up_to-requires : goal.count_up_to-requires
count_up_to-requires g c = keys_bounded g.Q.LookupKey.order g.met.Q.LookupKey.acts_as_key (items c.self.inside.set) c.recall_order.ensures.ascending c.map.result

pub returns : goal.returns
returns g c =
    rw (← c.self.view_is) (c.count_up_to.ensures ∙ probed_up_to g.Q.LookupKey.order (λ k. k.now) (λ p. p.key) (items c.self.inside.set) c.args.end c.map.result c.map.ensures)
