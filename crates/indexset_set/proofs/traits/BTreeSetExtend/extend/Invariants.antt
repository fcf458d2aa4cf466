-- The set holds its elements and the values so far.
use Rattle.std.proofs.Common.{◌≡◌}
use Rattle.std.specs.List.{fold}
use Rattle.indexset_core.specs.Order.{keep}
use Rattle.indexset_spine.specs.NodeList.{items}
use Rattle.indexset_set.proofs.traits.BTreeSetExtend.extend.Given as goal

abbrev pub invariant-loop-value : goal.invariant-loop-value
invariant-loop-value g l = record { came : items l.self ≡ fold (keep g.T.Ord.cmp) (items l.fn.self) l.yielded; size : l.self.size ≡ l.fn.self.size }
