-- The follower has read the lines so far.
use Rattle.std.proofs.Common.{◌≡◌, take}
use Rattle.indexset_journal.specs.Kept.{texts}
use Rattle.indexset_follow.specs.Follow.{start_state, state_after}
use Rattle.indexset_keep.proofs.restore.follow.Given as goal

abbrev pub invariant-loop-line : goal.invariant-loop-line
invariant-loop-line g l = l.follower ≡ state_after g.T.Ord.cmp g.T.Item.texts (start_state 0) (texts (take l.line-index l.lines))
