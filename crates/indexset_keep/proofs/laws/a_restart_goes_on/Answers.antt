use Rattle.indexset_keep.proofs.Starts.{again_done, again_held, again_leads}
use Rattle.indexset_keep.proofs.laws.a_restart_goes_on.Goals as goal

pub returns-clause-nodes : goal.returns-clause-nodes
returns-clause-nodes g c = again_held g.T.Ord.cmp g.T.Item.texts

pub returns-clause-done : goal.returns-clause-done
returns-clause-done g c = again_done g.T.Ord.cmp g.T.Item.texts

pub returns-clause-leader : goal.returns-clause-leader
returns-clause-leader g c = again_leads g.T.Ord.cmp g.T.Item.texts
