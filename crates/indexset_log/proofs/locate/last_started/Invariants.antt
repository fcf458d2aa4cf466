use Rattle.std.proofs.Common.{◌+◌, ◌-◌, ◌≡◌, ℕ, ◌<◌, ◌≤◌, length, map}
use Rattle.indexset_log.proofs.GallopLemmas.{Stepped, before, whole}
use Rattle.indexset_log.proofs.locate.last_started.Given as goal

abbrev pub invariant-loop-low : goal.invariant-loop-low
invariant-loop-low g l =
    let answer = g.P.Probe.answer l.initial.probe in
    let ns = map g.Node.NodeLike.list l.nodes in
    record {
      order : l.from ≤ l.low;
      meet : l.low ≤ l.high;
      within : l.high ≤ length l.nodes;
      started : (k : ℕ) → k + 1 ≡ l.low → before ns k < whole answer ns;
      ended : whole answer ns ≤ before ns l.high;
      fixed : g.P.Probe.answer l.probe ≡ answer;
      comparisons : Stepped l.from l.low l.high (length l.nodes) (g.P.Probe.asked l.probe) (g.P.Probe.asked l.initial.probe);
    }

abbrev pub decreases-loop-low : goal.decreases-loop-low
decreases-loop-low g l = l.high - l.low
