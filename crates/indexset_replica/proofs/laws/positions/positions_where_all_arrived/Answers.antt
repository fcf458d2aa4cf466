use Rattle.std.proofs.Common.{◌≡◌, ap, sym, ◌∙◌}
use Rattle.std.proofs.lemmas.Option.{same_Some}
use Rattle.indexset_core.specs.Nodes.{concat}
use Rattle.indexset_core.specs.Order.{index_of, rank}
use Rattle.indexset_replica.proofs.CopyPositionLemmas.{index_copied, rank_copied}
use Rattle.indexset_replica.proofs.laws.positions.positions_where_all_arrived.Goals as goal

pub returns-clause-rank : goal.returns-clause-rank
returns-clause-rank g c = λ s ns after es q k all led.
    let r = all.0 in
    let same : r.nodes ≡ after = same_Some r.nodes after (sym all.1.nodes ∙ led) in
    rank_copied g.T.Ord.cmp g.met.T.Ord.total g.Q.LookupKey.order g.met.Q.LookupKey.acts_as_key.alike k g.T.Clone.is_clone r.nodes q.nodes all.2.nodes
    ∙ ap (λ l. rank g.Q.LookupKey.order (concat l) k) same

pub returns-clause-index : goal.returns-clause-index
returns-clause-index g c = λ s ns after es q k all led.
    let r = all.0 in
    let same : r.nodes ≡ after = same_Some r.nodes after (sym all.1.nodes ∙ led) in
    index_copied g.T.Ord.cmp g.met.T.Ord.total g.Q.LookupKey.order g.met.Q.LookupKey.acts_as_key.alike k g.T.Clone.is_clone r.nodes q.nodes all.2.nodes
    ∙ ap (λ l. index_of g.Q.LookupKey.order (concat l) k) same
