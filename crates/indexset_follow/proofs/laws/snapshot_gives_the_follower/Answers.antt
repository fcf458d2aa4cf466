use Rattle.indexset_follow.proofs.Snapshots.{snapshot_taken, unsummed_taken}
use Rattle.indexset_follow.proofs.laws.snapshot_gives_the_follower.Goals as goal

pub returns-clause-summed : goal.returns-clause-summed
returns-clause-summed g c = λ giver d taker lawful small less few fit. snapshot_taken g.T.Ord.cmp g.T.Item.texts g.met.T.Token.tokens giver d small less few fit taker lawful

pub returns-clause-unsummed : goal.returns-clause-unsummed
returns-clause-unsummed g c = λ giver d taker lawful small less few fit. unsummed_taken g.T.Ord.cmp g.T.Item.texts g.met.T.Token.tokens giver d small less few fit taker lawful
