-- The remaining pairs are equally many on both sides, and are equal if and only if all pairs are.
use Rattle.std.proofs.Common.{◌≡◌, ◌&&◌, length}
use Rattle.std.specs.Cmp.Lexicographic.{pointwise}
use Rattle.indexset_map.proofs.compare.BTreeMapPartialEq.eq.Given as goal

abbrev pub invariant-loop-key : goal.invariant-loop-key
invariant-loop-key g l = record {
  as_long : length l.left ≡ length l.right;
  as_equal : pointwise (λ p q. g.K.PartialEq.eq p.key q.key && g.V.PartialEq.eq p.value q.value) l.left l.right
      ≡ pointwise (λ p q. g.K.PartialEq.eq p.key q.key && g.V.PartialEq.eq p.value q.value) l.initial.left
      l.initial.right;
}

abbrev pub decreases-loop-key : goal.decreases-loop-key
decreases-loop-key g l = length l.left
