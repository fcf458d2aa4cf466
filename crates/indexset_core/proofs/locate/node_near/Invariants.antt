use Rattle.std.proofs.Common.{◌+◌, ◌≡◌, ◌≤◌, map, take}
use Rattle.std.specs.Ordering.{is_lt}
use Rattle.indexset_core.specs.Digits.{digits}
use Rattle.indexset_core.proofs.EndLemmas.{end_answer}
use Rattle.indexset_core.proofs.NearbySearchLemmas.{IsEqualAt}
use Rattle.indexset_core.proofs.PartedLemmas.{Narrowed}
use Rattle.indexset_core.proofs.locate.node_near.Given as goal

abbrev pub invariant-loop-left : goal.invariant-loop-left
invariant-loop-left g l =
    let answer = end_answer (g.P.Probe.answer l.initial.probe) in
    let front = take l.last (map g.R.NodeItems.list l.nodes) in
    record {
      within : l.low + l.left ≤ l.last;
      narrowed : Narrowed (λ n. is_lt (answer n)) front l.low (l.low + l.left);
      equal : IsEqualAt answer front l.equal (l.low + l.left);
      fixed : g.P.Probe.answer l.probe ≡ g.P.Probe.answer l.initial.probe;
      comparisons : g.P.Probe.asked l.probe + digits l.left ≤ g.P.Probe.asked l.initial.probe + digits l.last;
    }

abbrev pub decreases-loop-left : goal.decreases-loop-left
decreases-loop-left g l = l.left
