use Rattle.std.proofs.Common.{◌-◌, ◌≡◌, ◌≤◌, length}
use Rattle.indexset_core.specs.Parted.{not_greater_count}
use Rattle.indexset_log.proofs.GallopLemmas.{Stepped}
use Rattle.indexset_log.proofs.locate.run_end.Given as goal

abbrev pub invariant-loop-low : goal.invariant-loop-low
invariant-loop-low g l =
    let answer = g.P.Probe.answer l.initial.probe in
    record {
      order : l.from ≤ l.low;
      before : l.low ≤ not_greater_count answer l.items;
      past : not_greater_count answer l.items ≤ l.high;
      within : l.high ≤ length l.items;
      fixed : g.P.Probe.answer l.probe ≡ answer;
      comparisons : Stepped l.from l.low l.high (length l.items) (g.P.Probe.asked l.probe) (g.P.Probe.asked l.initial.probe);
    }

abbrev pub decreases-loop-low : goal.decreases-loop-low
decreases-loop-low g l = l.high - l.low
