use Rattle.indexset_follow.proofs.Passing.{change_passed, next_passed}
use Rattle.indexset_follow.proofs.PassedReplies.{reply_passed}
use Rattle.indexset_follow.proofs.laws.replies_are_passed_over.Goals as goal

pub returns-clause-first : goal.returns-clause-first
returns-clause-first g c = reply_passed

pub returns-clause-told : goal.returns-clause-told
returns-clause-told g c = change_passed g.T.Ord.cmp g.T.Item.texts

pub returns-clause-next : goal.returns-clause-next
returns-clause-next g c = next_passed g.T.Ord.cmp g.T.Item.texts
