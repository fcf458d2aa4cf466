use Rattle.std.proofs.Common.{◌≡◌, ◌==◌, ◌-◌, ◌≤◌, false, length, take}
use Rattle.std.specs.List.{list_any}
use Rattle.indexset_lines.proofs.line.line_len.Given as goal

-- the skipped bytes have no line end
abbrev pub invariant-loop-skipped : goal.invariant-loop-skipped
invariant-loop-skipped l = record {
  within : l.skipped ≤ length l.bytes;
  none : list_any (λ b. b == 10) (take l.skipped l.bytes) ≡ false;
}

abbrev pub decreases-loop-skipped : goal.decreases-loop-skipped
decreases-loop-skipped l = length l.bytes - l.skipped
