-- A prefix is inserted, and the others remain.
use Rattle.std.proofs.Common.{◌≡◌, length}
use Rattle.indexset_core.specs.Order.{put}
use Rattle.indexset_spine.specs.NodeList.{node_list, items}
use Rattle.indexset_spine.specs.Edits.{FoldsPrefix}
use Rattle.indexset_set.specs.SetNodes.{nodes_put}
use Rattle.indexset_set.proofs.BTreeSet.append.Given as goal

abbrev pub invariant-loop-self : goal.invariant-loop-self
invariant-loop-self g l = record {
  moved : FoldsPrefix (put g.T.Ord.cmp) (items l.initial.self) (items l.initial.other) (items l.self) (items l.other);
  nodes : FoldsPrefix (λ ns x. nodes_put g.T.Ord.cmp (node_list ns l.initial.self.size) x) l.initial.self.nodes (items l.initial.other) l.self.nodes (items l.other);
  size : l.self.size ≡ l.initial.self.size;
  other_size : l.other.size ≡ l.initial.other.size;
}

abbrev pub decreases-loop-self : goal.decreases-loop-self
decreases-loop-self g l = length (items l.other)
