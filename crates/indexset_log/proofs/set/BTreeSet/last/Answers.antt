use Rattle.indexset_log.proofs.EndRemovalLemmas.{last_greatest}
use Rattle.indexset_log.proofs.set.BTreeSet.last.Goals as goal

pub returns-clause-greatest : goal.returns-clause-greatest
returns-clause-greatest g c =
    let taken = rw c.iter.ensures.rest at c.next_back.ensures.steps in
    last_greatest g.T.Ord.cmp g.met.T.Ord.total _ (rw c.iter.ensures.rest at c.iter.ensures.ascending) c.next_back.result c.next_back.new.self taken
