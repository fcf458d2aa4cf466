use Rattle.std.proofs.Common.{◌≡◌, ◌≤◌, drop, find, length}
use Rattle.indexset_multi.proofs.multimap.remove.index_of.Given as goal

abbrev pub invariant-loop-pair : goal.invariant-loop-pair
invariant-loop-pair g l =
    record {
      left : l.rest ≡ drop l.index l.initial.rest;
      within : l.index ≤ length l.initial.rest;
      found : find (λ p. g.V.PartialEq.eq p.value l.value) l.rest ≡ find (λ p. g.V.PartialEq.eq p.value l.value) l.initial.rest;
    }

abbrev pub decreases-loop-pair : goal.decreases-loop-pair
decreases-loop-pair g l = length l.rest
