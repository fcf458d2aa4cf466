use Rattle.std.proofs.Common.{take}
use Rattle.std.specs.Io.KnownBytes.{Appends}
use Rattle.indexset_bench.specs.PairText.{event_text, lines_for}
use Rattle.indexset_bench.proofs.write.write_events.Given as goal

abbrev pub invariant-loop-event : goal.invariant-loop-event
invariant-loop-event g l = Appends (g.W.Write.contents l.fn.writer) (g.W.Write.contents l.writer) (lines_for (event_text g.T.Item.texts) (take l.event-index l.events))
