use Rattle.std.proofs.Common.{◌+◌, ◌≡◌, ◌≤◌, length}
use Rattle.std.specs.Ordering.{is_lt}
use Rattle.indexset_core.specs.Digits.{digits}
use Rattle.indexset_core.proofs.NearbySearchLemmas.{IsEqualAt}
use Rattle.indexset_core.proofs.PartedLemmas.{Narrowed}
use Rattle.indexset_core.proofs.search.first_not_less_near.Given as goal

abbrev pub invariant-loop-left : goal.invariant-loop-left
invariant-loop-left g l = record {
  narrowed : Narrowed (λ x. is_lt (g.P.Probe.answer l.initial.probe x)) l.items l.low (l.low + l.left);
  equal : IsEqualAt (g.P.Probe.answer l.initial.probe) l.items l.equal (l.low + l.left);
  fixed : g.P.Probe.answer l.probe ≡ g.P.Probe.answer l.initial.probe;
  comparisons : g.P.Probe.asked l.probe + digits l.left ≤ g.P.Probe.asked l.initial.probe + digits (length l.items);
}

abbrev pub decreases-loop-left : goal.decreases-loop-left
decreases-loop-left g l = l.left
