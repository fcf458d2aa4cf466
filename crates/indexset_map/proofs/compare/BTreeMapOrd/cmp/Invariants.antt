-- The remaining pairs compare as all pairs do.
use Rattle.std.proofs.Common.{◌≡◌, length}
use Rattle.std.specs.Cmp.Lexicographic.{slice_cmp}
use Rattle.std.specs.Ordering.{ordering_then}
use Rattle.indexset_map.proofs.compare.BTreeMapOrd.cmp.Given as goal

abbrev pub invariant-loop-key : goal.invariant-loop-key
invariant-loop-key g l =
    slice_cmp (λ p q. ordering_then (g.K.Ord.cmp p.key q.key) (g.V.Ord.cmp p.value q.value)) l.left l.right
    ≡ slice_cmp (λ p q. ordering_then (g.K.Ord.cmp p.key q.key) (g.V.Ord.cmp p.value q.value)) l.initial.left
    l.initial.right

abbrev pub decreases-loop-key : goal.decreases-loop-key
decreases-loop-key g l = length l.left
