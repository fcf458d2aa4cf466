use Rattle.std.proofs.Common.{◌≡◌, ◌≤◌, ◌-◌, length, take, Some}
use Rattle.indexset_ffi.specs.Replicas.{applied_all}
use Rattle.indexset_ffi.proofs.replica_calls.apply_each.Given as goal

-- the first records were applied
abbrev pub invariant-loop-count : goal.invariant-loop-count
invariant-loop-count l = record {
  inside : l.count ≤ length l.events;
  applied : applied_all l.fn.replica (take l.count l.events) ≡ Some l.replica;
}

abbrev pub decreases-loop-count : goal.decreases-loop-count
decreases-loop-count l = length l.events - l.count
