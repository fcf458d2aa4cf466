-- The events at the places so far were offered, in order.
use Rattle.std.proofs.Common.{take}
use Rattle.indexset_replica.specs.Delivery.{events_at, IsOffered}
use Rattle.indexset_replica.proofs.Replica.follow.Given as goal

abbrev pub invariant-loop-place : goal.invariant-loop-place
invariant-loop-place g l = IsOffered g.T.Ord.cmp g.T.Clone.is_clone l.fn.self (take l.place-index (events_at l.events l.order)) l.self
