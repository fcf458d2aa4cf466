use Rattle.std.proofs.Common.{◌≡◌, ◌-◌, ◌≤◌, length}
use Rattle.indexset_core.specs.Nodes.{concat}
use Rattle.indexset_events.specs.Clones.{AreTableEvents}
use Rattle.indexset_multi.specs.Keys.{pairs_of}
use Rattle.indexset_multi.specs.Tree.{IsMultiPairClone, after_removals, removals_events}
use Rattle.indexset_multi.proofs.multimap.BTreeMultiMap.remove_all_cdc.Given as goal

abbrev pub invariant-loop-count : goal.invariant-loop-count
invariant-loop-count g l = record {
  tree : l.self ≡ after_removals g.K.Ord.cmp g.Q.LookupKey.order l.initial.self l.key l.count;
  within : l.count ≤ length (pairs_of g.Q.LookupKey.order (concat l.initial.self.nodes) l.key);
  events : AreTableEvents (IsMultiPairClone g.K.Clone.is_clone g.V.Clone.is_clone) l.initial.self.next (removals_events g.K.Ord.cmp g.Q.LookupKey.order l.initial.self l.key l.count) l.events.items;
}

abbrev pub decreases-loop-count : goal.decreases-loop-count
decreases-loop-count g l = length (pairs_of g.Q.LookupKey.order (concat l.initial.self.nodes) l.key) - l.count
