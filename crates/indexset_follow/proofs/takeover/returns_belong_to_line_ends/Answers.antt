use Rattle.std.proofs.Common.{ap}
use Rattle.indexset_follow.specs.Store.{after_held, held_reply}
use Rattle.indexset_follow.proofs.Returns.{other_stays, return_goes}
use Rattle.indexset_follow.proofs.takeover.returns_belong_to_line_ends.Goals as goal

pub returns-clause-held : goal.returns-clause-held
returns-clause-held g c = λ h line. ap (after_held g.T.Ord.cmp g.T.Item.texts h) (return_goes line)

pub returns-clause-told : goal.returns-clause-told
returns-clause-told g c = λ o h line. ap (held_reply g.T.Ord.cmp g.T.Item.texts o h) (return_goes line)

pub returns-clause-others : goal.returns-clause-others
returns-clause-others g c = other_stays
