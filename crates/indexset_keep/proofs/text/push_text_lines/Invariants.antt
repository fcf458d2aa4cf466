-- The lines so far and the lines of the rest are those of the text.
use Rattle.std.proofs.Common.{◌≡◌, ◌++◌, length}
use Rattle.indexset_journal.specs.Kept.{texts}
use Rattle.indexset_lines.specs.Lines.{whole_lines}
use Rattle.indexset_keep.proofs.text.push_text_lines.Given as goal

abbrev pub invariant-loop-line : goal.invariant-loop-line
invariant-loop-line l = texts l.fn.lines.items ++ whole_lines l.text ≡ texts l.lines.items ++ whole_lines l.left

abbrev pub decreases-loop-line : goal.decreases-loop-line
decreases-loop-line l = length l.left
