use Rattle.indexset_keep.proofs.Published.{events_part, feed, follows, found}
use Rattle.indexset_keep.proofs.laws.published_events_are_a_beginning.Goals as goal

pub returns-clause-first : goal.returns-clause-first
returns-clause-first g c = λ l answered more. events_part g.T.Ord.cmp g.T.Item.texts l.pairs answered more

pub returns-clause-feed : goal.returns-clause-feed
returns-clause-feed g c = feed g.T.Ord.cmp g.T.Item.texts g.met.T.Ord.total g.met.T.Token.tokens

pub returns-clause-found : goal.returns-clause-found
returns-clause-found g c = λ l lines sound d. found g.T.Ord.cmp g.T.Item.texts g.met.T.Ord.total g.met.T.Token.tokens l lines sound d

pub returns-clause-follower : goal.returns-clause-follower
returns-clause-follower g c = follows g.T.Ord.cmp g.T.Item.texts g.met.T.Ord.total g.met.T.Token.tokens
