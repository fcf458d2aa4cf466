use Rattle.indexset_follow.proofs.Leads.{answers_as, leads_as}
use Rattle.indexset_follow.proofs.takeover.follower_takes_over.Goals as goal

pub returns-clause-held : goal.returns-clause-held
returns-clause-held g c = λ l w s holds knows fits. leads_as g.T.Ord.cmp g.T.Item.texts w l s holds knows fits

pub returns-clause-answers : goal.returns-clause-answers
returns-clause-answers g c = λ o l w s lines holds knows fits. answers_as g.T.Ord.cmp g.T.Item.texts w l s holds knows fits o lines
