use Rattle.std.proofs.Common.{◌≡◌, ◌-◌, ◌≤◌, length}
use Rattle.indexset_core.specs.Nodes.{concat}
use Rattle.indexset_multi.specs.Keys.{pairs_of}
use Rattle.indexset_multi.specs.Tree.{after_removals}
use Rattle.indexset_multi.proofs.multimap.BTreeMultiMap.remove_all.Given as goal

abbrev pub invariant-loop-key : goal.invariant-loop-key
invariant-loop-key g l = record {
  tree : l.self ≡ after_removals g.K.Ord.cmp g.Q.LookupKey.order l.initial.self l.key l.count;
  within : l.count ≤ length (pairs_of g.Q.LookupKey.order (concat l.initial.self.nodes) l.key);
}

abbrev pub decreases-loop-key : goal.decreases-loop-key
decreases-loop-key g l = length (pairs_of g.Q.LookupKey.order (concat l.initial.self.nodes) l.key) - l.count
