use Rattle.std.proofs.Common.{◌≡◌, ◌≤◌, ◌-◌, length, take}
use Rattle.std.specs.List.{fold}
use Rattle.std.specs.Ordering.{nat_cmp}
use Rattle.indexset_core.specs.Order.{keep}
use Rattle.indexset_spine.specs.NodeList.{items}
use Rattle.indexset_ffi.proofs.set_calls.insert_each.Given as goal

-- the first keys were inserted
abbrev pub invariant-loop-count : goal.invariant-loop-count
invariant-loop-count l = record {
  inside : l.count ≤ length l.keys;
  kept : items l.set ≡ fold (keep nat_cmp) (items l.fn.set) (take l.count l.keys);
}

abbrev pub decreases-loop-count : goal.decreases-loop-count
decreases-loop-count l = length l.keys - l.count
