use Rattle.std.proofs.Common.{◌≡◌, length}
use Rattle.indexset_follow.specs.Early.{caught_up}
use Rattle.indexset_follow.proofs.answer.catch_up.Given as goal

abbrev pub invariant-loop-event : goal.invariant-loop-event
invariant-loop-event g l = caught_up g.T.Ord.cmp l.fn.nodes l.fn.early ≡ caught_up g.T.Ord.cmp l.nodes l.early

abbrev pub decreases-loop-event : goal.decreases-loop-event
decreases-loop-event g l = length l.early
