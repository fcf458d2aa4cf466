use Rattle.std.specs.Io.KnownBytes.{Keeps}
use Rattle.indexset_lines.specs.Reading.{Stops}
use Rattle.indexset_lines.proofs.line.next_line.Given as goal

abbrev pub invariant-loop : goal.invariant-loop
invariant-loop g l =
    Stops (g.R.Read.remaining l.fn.reader) (g.R.Read.remaining l.reader) l.line.items
    × Keeps (g.W.Write.contents l.fn.writer) (g.W.Write.contents l.writer)
