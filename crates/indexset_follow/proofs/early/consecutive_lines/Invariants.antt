-- The lines so far and those of the remaining events are those of all.
use Rattle.std.proofs.Common.{◌≡◌, ◌+◌, ◌++◌, length, map}
use Rattle.indexset_bench.specs.PairText.{event_text}
use Rattle.indexset_follow.specs.Early.{consecutive}
use Rattle.indexset_follow.proofs.early.consecutive_lines.Given as goal

abbrev pub invariant-loop-event_number : goal.invariant-loop-event_number
invariant-loop-event_number g l =
    map (event_text g.T.Item.texts) (consecutive l.number l.events.pairs)
    ≡ map (λ line. line.items) l.lines.items ++ map (event_text g.T.Item.texts) (consecutive (l.number + length l.lines.items) l.event_number-iterator)
