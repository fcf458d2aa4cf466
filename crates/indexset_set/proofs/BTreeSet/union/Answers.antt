use Rattle.std.proofs.Common.{◌+◌, ◌≤◌, length, subst, sym}
use Rattle.indexset_spine.specs.NodeList.{items}
use Rattle.indexset_set.proofs.SetAlgebraLaws.{union_few}
use Rattle.indexset_set.proofs.SetAlgebraLemmas.{union_read}
use Rattle.indexset_set.proofs.BTreeSet.union.Goals as goal

pub returns-clause-rest : goal.returns-clause-rest
returns-clause-rest g c =
    rw c.merge.ensures.rest (union_read g.T.Ord.cmp g.met.T.Ord.total _ _ c.merge.ensures.left c.merge.ensures.right)

pub returns-clause-length_bound : goal.returns-clause-length_bound
returns-clause-length_bound g c =
    subst (λ walk. length walk ≤ length (items c.args.self.now) + length (items c.args.other.now))
    (sym (returns-clause-rest g c))
    (union_few g.T.Ord.cmp (g.met.T.Ord.total) _ _ c.merge.ensures.left c.merge.ensures.right)
