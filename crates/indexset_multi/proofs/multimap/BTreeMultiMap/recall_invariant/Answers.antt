use Rattle.std.proofs.Common.{◌≤◌, length, subst}
use Rattle.std.below.core.specs.declared.int.usize.TheConstants.{MAX}
use Rattle.indexset_core.specs.MultiPairs.{by_number}
use Rattle.indexset_core.specs.Nodes.{concat}
use Rattle.indexset_log.specs.Tree.{IsTree}
use Rattle.indexset_multi.proofs.multimap.BTreeMultiMap.recall_invariant.Goals as goal

pub returns-clause-tree : goal.returns-clause-tree
returns-clause-tree g c =
    subst (λ m. IsTree (by_number g.K.Ord.cmp) g.Node.NodeLike.most m.nodes m.size (length (concat m.nodes))) c.self.view_is c.recall_invariant.ensures.tree

pub returns-clause-items : goal.returns-clause-items
returns-clause-items g c = subst (λ m. length (concat m.nodes) ≤ MAX) c.self.view_is c.recall_invariant.ensures.items
