-- The result is that of the items up to the last of those seen, and the others are left.
use Rattle.indexset_spine.specs.NodeList.{items}
use Rattle.indexset_set.proofs.SetCopyLemmas.{TellsTo}
use Rattle.indexset_set.proofs.make.is_ascending.Given as goal

abbrev pub invariant-loop-item : goal.invariant-loop-item
invariant-loop-item g l = TellsTo g.T.Ord.cmp l.ascends (items l.fn.spine) l.last l.rest
