-- The last seal of all lines is that of the rest, after the last seal so far and the lines that
-- have none yet.
use Rattle.std.proofs.Common.{◌≡◌, ◌≤◌, drop, take}
use Rattle.indexset_journal.specs.Kept.{texts}
use Rattle.indexset_keep.specs.Seal.{last_seal, seal_after}
use Rattle.indexset_keep.proofs.seal.last_seal.Given as goal

abbrev pub invariant-loop-i : goal.invariant-loop-i
invariant-loop-i l = (l.from ≤ l.i) × (last_seal (texts l.lines) ≡ seal_after l.seal (texts (drop l.from (take l.i l.lines))) (texts (drop l.i l.lines)))
