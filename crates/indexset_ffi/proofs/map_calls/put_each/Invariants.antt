use Rattle.std.proofs.Common.{◌≡◌, ◌≤◌, ◌-◌, take}
use Rattle.indexset_ffi.specs.Elements.{put_in_turn}
use Rattle.indexset_ffi.proofs.map_calls.put_each.Given as goal

-- the first pairs were inserted
abbrev pub invariant-loop-count : goal.invariant-loop-count
invariant-loop-count l = record {
  inside : l.count ≤ l.room;
  put : l.map.pairs ≡ put_in_turn l.fn.map.pairs (take l.count l.keys) (take l.count l.values);
}

abbrev pub decreases-loop-count : goal.decreases-loop-count
decreases-loop-count l = l.room - l.count
