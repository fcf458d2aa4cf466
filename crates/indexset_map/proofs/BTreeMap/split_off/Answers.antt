use Rattle.std.proofs.Common.{take, drop, ap, ◌∙◌}
use Rattle.indexset_map.specs.Contents.{Contents}
use Rattle.indexset_map.proofs.RangeLemmas.{cut_below, cut_from, keys_all_below, keys_all_from}
use Rattle.indexset_map.proofs.BTreeMap.split_off.Goals as goal

pub returns-clause-below : goal.returns-clause-below
returns-clause-below g c =
    (c.in_ok-set.ensures {u = tt}).first
    ∙ (ap (λ (m : Contents g.row.K.Denot g.row.V.Denot). take c.rank-place.result m.pairs) c.self.view_is
    ∙ cut_below g.Q.LookupKey.order g.met.Q.LookupKey.acts_as_key c.args.self.now.pairs
    c.recall_order.ensures.ascending c.args.key _ c.rank-place.ensures.value)

pub returns-clause-rest : goal.returns-clause-rest
returns-clause-rest g c =
    (c.in_ok-set.ensures {u = tt}).rest
    ∙ (ap (λ (m : Contents g.row.K.Denot g.row.V.Denot). drop c.rank-place.result m.pairs) c.self.view_is
    ∙ cut_from g.Q.LookupKey.order g.met.Q.LookupKey.acts_as_key c.args.self.now.pairs
    c.recall_order.ensures.ascending c.args.key _ c.rank-place.ensures.value)

pub returns-clause-all_below : goal.returns-clause-all_below
returns-clause-all_below g c = keys_all_below g.Q.LookupKey.order _ _ c.args.key (returns-clause-below g c)

pub returns-clause-all_from : goal.returns-clause-all_from
returns-clause-all_from g c = keys_all_from g.Q.LookupKey.order _ _ c.args.key (returns-clause-rest g c)
