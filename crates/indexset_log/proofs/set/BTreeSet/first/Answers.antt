use Rattle.indexset_log.proofs.EndRemovalLemmas.{first_least}
use Rattle.indexset_log.proofs.set.BTreeSet.first.Goals as goal

pub returns-clause-least : goal.returns-clause-least
returns-clause-least g c =
    let taken = rw c.iter.ensures.rest at c.next.ensures.steps in
    first_least g.T.Ord.cmp g.met.T.Ord.total _ (rw c.iter.ensures.rest at c.iter.ensures.ascending) c.next.result c.next.new.self taken
