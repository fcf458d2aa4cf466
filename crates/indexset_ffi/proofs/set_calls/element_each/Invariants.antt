use Rattle.std.proofs.Common.{◌≡◌, ◌-◌, ◌<◌, ◌≤◌, length, map}
use Rattle.std.specs.List.{AllWithin}
use Rattle.indexset_spine.specs.NodeList.{items}
use Rattle.indexset_ffi.specs.Elements.{element_at, written}
use Rattle.indexset_ffi.proofs.set_calls.element_each.Given as goal

-- the first elements of the slice are the elements at the first positions
abbrev pub invariant-loop-count : goal.invariant-loop-count
invariant-loop-count l = record {
  inside : l.count ≤ l.room;
  long : length l.out ≡ length l.fn.out;
  contains : AllWithin (λ i. i < length (items l.set)) l.positions 0 l.count;
  done : l.out ≡ written l.count (map (element_at (items l.set)) l.positions) l.fn.out;
}

abbrev pub decreases-loop-count : goal.decreases-loop-count
decreases-loop-count l = l.room - l.count
