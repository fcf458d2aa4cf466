-- The events so far were offered, in order.
use Rattle.std.proofs.Common.{take}
use Rattle.indexset.specs.Words.{IsOffered}
use Rattle.indexset_uses.proofs.copies.offer_all.Given as goal

abbrev pub invariant-loop-event : goal.invariant-loop-event
invariant-loop-event g l = IsOffered g.T.Ord.cmp g.T.Clone.is_clone l.initial.copy (take l.event-index l.arriving) l.copy
