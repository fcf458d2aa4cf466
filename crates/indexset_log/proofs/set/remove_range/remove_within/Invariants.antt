-- The nodes so far are without their items within the bounds.
use Rattle.std.proofs.Common.{◌≡◌, ◌++◌, length, map, take, drop}
use Rattle.std.specs.Range.Bound.{bound_map}
use Rattle.indexset_core.specs.Nodes.{concat}
use Rattle.indexset_log.specs.RangeRemoval.{outside}
use Rattle.indexset_log.proofs.set.remove_range.remove_within.Given as goal

abbrev pub invariant-loop-node : goal.invariant-loop-node
invariant-loop-node g l =
    let start = bound_map (λ v. v.now) l.range.0 in
    let end = bound_map (λ v. v.now) l.range.1 in
    let old = map (λ v. v.items) l.initial.nodes in
    let made = map (outside g.Q.LookupKey.order start end) old in
    record {
      nodes : map (λ v. v.items) l.nodes ≡ take l.node-index made ++ drop l.node-index old;
      count : l.left ≡ length (concat (take l.node-index made));
    }
