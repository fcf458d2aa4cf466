use Rattle.std.proofs.Common.{◌≡◌, sym}
use Rattle.indexset_replica.proofs.CopyPositionLemmas.{index_copied, rank_copied}
use Rattle.indexset_replica.proofs.laws.positions.positions_in_a_prefix.Goals as goal

pub returns-clause-rank : goal.returns-clause-rank
returns-clause-rank g c = λ s ns es q at.
    let r = at.0 in
    let next : r.next ≡ q.next = sym at.2.next in
    (r.nodes, rw next at at.1.nodes, λ k. rank_copied g.T.Ord.cmp g.met.T.Ord.total g.Q.LookupKey.order g.met.Q.LookupKey.acts_as_key.alike k g.T.Clone.is_clone r.nodes q.nodes at.2.nodes)

pub returns-clause-index : goal.returns-clause-index
returns-clause-index g c = λ s ns es q at.
    let r = at.0 in
    let next : r.next ≡ q.next = sym at.2.next in
    (r.nodes, rw next at at.1.nodes, λ k. index_copied g.T.Ord.cmp g.met.T.Ord.total g.Q.LookupKey.order g.met.Q.LookupKey.acts_as_key.alike k g.T.Clone.is_clone r.nodes q.nodes at.2.nodes)
