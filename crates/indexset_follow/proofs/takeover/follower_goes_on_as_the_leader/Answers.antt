use Rattle.indexset_follow.proofs.Leads.{goes_on, goes_on_answering}
use Rattle.indexset_follow.proofs.takeover.follower_goes_on_as_the_leader.Goals as goal

pub returns-clause-held : goal.returns-clause-held
returns-clause-held g c = λ size w lines s two few holds knows. goes_on g.T.Ord.cmp g.T.Item.texts g.met.T.Ord.total g.met.T.Token.tokens size two few lines s holds knows w

pub returns-clause-answers : goal.returns-clause-answers
returns-clause-answers g c = λ o size w lines more s two few holds knows. goes_on_answering g.T.Ord.cmp g.T.Item.texts g.met.T.Ord.total g.met.T.Token.tokens size two few lines s holds knows w o more
