use Rattle.std.proofs.Common.{◌-◌, ◌≡◌, ◌+◌, ◌≤◌, ◌==◌, not, length}
use Rattle.indexset_core.specs.Digits.{digits}
use Rattle.indexset_core.specs.Parted.{comes_first}
use Rattle.indexset_core.proofs.PartedLemmas.{Narrowed}
use Rattle.indexset_core.proofs.search.front_len.Given as goal

abbrev pub invariant-loop-low : goal.invariant-loop-low
invariant-loop-low g l = record {
  narrowed : Narrowed (λ x. comes_first (not (g.row.OR_EQUAL == 0)) (g.P.Probe.answer l.initial.probe x)) l.items l.low l.high;
  fixed : g.P.Probe.answer l.probe ≡ g.P.Probe.answer l.initial.probe;
  comparisons : g.P.Probe.asked l.probe + digits (l.high - l.low) ≤ g.P.Probe.asked l.initial.probe + digits (length l.items);
}

abbrev pub decreases-loop-low : goal.decreases-loop-low
decreases-loop-low g l = l.high - l.low
