-- The set holds its elements and the values so far.
use Rattle.std.proofs.Common.{◌≡◌, fold, map}
use Rattle.indexset_core.specs.Order.{keep}
use Rattle.indexset_spine.specs.NodeList.{items}
use Rattle.indexset_set.proofs.traits.BTreeSetExtendRef.extend.Given as goal

abbrev pub invariant-loop-value : goal.invariant-loop-value
invariant-loop-value g l = record {
  came : items l.self ≡ fold (keep g.T.Ord.cmp) (items l.fn.self) (map (λ x. x.now) l.yielded);
  size : l.self.size ≡ l.fn.self.size;
}
