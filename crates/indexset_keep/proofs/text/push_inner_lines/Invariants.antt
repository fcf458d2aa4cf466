-- The lines so far, the current line and the lines of the rest without the last are the inner lines
-- of the text.
use Rattle.std.proofs.Common.{◌≡◌, ◌++◌, length}
use Rattle.indexset_journal.specs.Kept.{texts}
use Rattle.indexset_lines.specs.Lines.{whole_lines}
use Rattle.indexset_keep.specs.Told.{inner}
use Rattle.indexset_keep.proofs.Cuts.{but_last}
use Rattle.indexset_keep.proofs.text.push_inner_lines.Given as goal

abbrev pub invariant-loop-next : goal.invariant-loop-next
invariant-loop-next l = texts l.fn.lines.items ++ inner (whole_lines l.text) ≡ texts l.lines.items ++ but_last l.line (whole_lines l.left)

abbrev pub decreases-loop-next : goal.decreases-loop-next
decreases-loop-next l = length l.left
