-- The tree has the items so far.
use Rattle.std.proofs.Common.{◌≡◌, []}
use Rattle.std.specs.List.{fold}
use Rattle.indexset_core.specs.Nodes.{concat}
use Rattle.indexset_core.specs.Order.{keep}
use Rattle.indexset_core.specs.declared.constants.TheConstants.{DEFAULT_INNER_SIZE}
use Rattle.indexset_log.specs.Edits.{after_checked_put}
use Rattle.indexset_log.specs.Tree.{fresh}
use Rattle.indexset_log.proofs.set.make.BTreeSet+T+Vec+T.from_iter.Given as goal

abbrev pub invariant-loop-value : goal.invariant-loop-value
invariant-loop-value g l = record {
  contents : concat l.set.nodes ≡ fold (keep g.T.Ord.cmp) [] l.yielded;
  tree : l.set ≡ fold (after_checked_put g.T.Ord.cmp) (fresh DEFAULT_INNER_SIZE) l.yielded;
}
