use Rattle.indexset_map.proofs.RunLemmas.{run_taken}
use Rattle.indexset_map.proofs.BTreeMap.take_run.Goals as goal

pub returns-clause-inserted : goal.returns-clause-inserted
returns-clause-inserted g c =
    run_taken g.K.Ord.cmp g.met.K.Ord.total c.self.inside.set c.take_run.new.set c.args.self.now c.self.view_is
    c.take_run.ensures.size c.args.run.now.items c.take_run.new.run.items c.recall_order.ensures.cut
    (rw (← c.self.view_is) at c.requires.order) c.in_ok-take_run.ensures.emptied c.take_run.ensures.nodes
