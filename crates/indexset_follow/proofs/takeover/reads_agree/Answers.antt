use Rattle.indexset_follow.proofs.Asked.{follower_answers, leader_answers, nothing_changed}
use Rattle.indexset_follow.proofs.takeover.reads_agree.Goals as goal

pub returns-clause-follows : goal.returns-clause-follows
returns-clause-follows g c = λ o size w s q fit. follower_answers g.T.Ord.cmp g.T.Item.texts g.met.T.Token.tokens q fit o size w s

pub returns-clause-leads : goal.returns-clause-leads
returns-clause-leads g c = λ o size w l q fit. leader_answers g.T.Ord.cmp g.T.Item.texts g.met.T.Token.tokens q fit o size w l

pub returns-clause-still : goal.returns-clause-still
returns-clause-still g c = λ size w r q fit. nothing_changed g.T.Ord.cmp g.T.Item.texts g.met.T.Token.tokens q fit size w r
