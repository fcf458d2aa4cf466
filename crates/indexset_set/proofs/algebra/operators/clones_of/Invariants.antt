-- The elements so far have their clones.
use Rattle.std.proofs.Common.{map}
use Rattle.std.specs.List.{AllZip}
use Rattle.indexset_set.proofs.algebra.operators.clones_of.Given as goal

abbrev pub invariant-loop-element : goal.invariant-loop-element
invariant-loop-element g l = AllZip g.T.Clone.is_clone (map (λ x. x.now) l.yielded) l.clones.items
