-- The lines so far were appended.
use Rattle.std.proofs.Common.{◌≡◌, ◌++◌, take}
use Rattle.indexset_journal.specs.Kept.{texts}
use Rattle.indexset_keep.proofs.text.push_first.Given as goal

abbrev pub invariant-loop-line : goal.invariant-loop-line
invariant-loop-line l = texts l.lines.items ≡ texts l.fn.lines.items ++ texts (take l.line-index (take l.count l.others))
