-- The set and the run after it hold the values so far.
use Rattle.std.proofs.Common.{◌≡◌, [], ◌∷◌, ◌++◌}
use Rattle.std.specs.List.{fold}
use Rattle.indexset_core.specs.Order.{IsAscending, keep}
use Rattle.indexset_spine.specs.NodeList.{node_list, items, with_all_last}
use Rattle.indexset_set.specs.SetNodes.{nodes_kept}
use Rattle.indexset_set.proofs.BTreeSet.kept_in.Given as goal

abbrev pub invariant-loop-value : goal.invariant-loop-value
invariant-loop-value g l = record {
  order : IsAscending g.T.Ord.cmp (items l.set ++ l.run.items);
  kept : items l.set ++ l.run.items ≡ fold (keep g.T.Ord.cmp) [] l.yielded;
  nodes : with_all_last l.fn.size l.set.nodes l.run.items ≡ fold (λ ns x. nodes_kept g.T.Ord.cmp (node_list ns l.fn.size) x) ([] ∷ []) l.yielded;
  size : l.set.size ≡ l.fn.size;
}
