use Rattle.indexset_map.proofs.SpanLemmas.{key_places, span_filter}
use Rattle.indexset_map.proofs.BTreeMap.within_mut.Goals as goal

pub returns-clause-span : goal.returns-clause-span
returns-clause-span g c =
    key_places g.Q.LookupKey.order g.met.Q.LookupKey.acts_as_key c.args.self.now.pairs
    c.recall_order.ensures.ascending _ _ _ c.start_spot-from.result.1 c.end_position-back.result
    c.start_spot-from.ensures.position c.end_position-back.ensures c.min.ensures

pub returns-clause-rest : goal.returns-clause-rest
returns-clause-rest g c = span_filter _ c.args.self.now.pairs _ c.end_position-back.result (returns-clause-span g c)
