use Rattle.std.proofs.Common.{◌-◌, ◌≡◌, ◌+◌, ◌<◌, ◌≤◌, length, map, true, false}
use Rattle.std.specs.List.{AllWithin, HoldsAt}
use Rattle.indexset_core.specs.Digits.{digits}
use Rattle.indexset_core.specs.Nodes.{ends_less}
use Rattle.indexset_core.proofs.locate.node_far.Given as goal

abbrev pub invariant-loop-low : goal.invariant-loop-low
invariant-loop-low g l =
    let answer = g.P.Probe.answer l.initial.probe in
    let lists = map g.R.NodeItems.list l.nodes in
    record {
      order : l.low ≤ l.high;
      within : l.high ≤ length l.nodes - 1;
      less : AllWithin (λ n. ends_less answer n ≡ true) lists 0 l.low;
      not_less : l.high < length l.nodes - 1 → HoldsAt (λ n. ends_less answer n ≡ false) lists l.high;
      fixed : g.P.Probe.answer l.probe ≡ answer;
      comparisons : g.P.Probe.asked l.probe + digits (l.high - l.low) ≤ g.P.Probe.asked l.initial.probe + digits (length l.nodes - 1);
    }

abbrev pub decreases-loop-low : goal.decreases-loop-low
decreases-loop-low g l = l.high - l.low
