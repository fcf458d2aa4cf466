use Rattle.std.proofs.Common.{◌≡◌, ◌<◌, ◌≤◌, ◌-◌, length, drop, map}
use Rattle.indexset_ffi.specs.Elements.{written}
use Rattle.indexset_ffi.proofs.next.write_numbers.Given as goal

-- the first elements of the slices are the items so far, and unless a slice is full the iterator
-- has the rest
abbrev pub invariant-loop-count : goal.invariant-loop-count
invariant-loop-count g l = record {
  inside : l.count ≤ length l.fn.walk;
  room : l.count ≤ l.room;
  many : length l.keys ≡ length l.fn.keys;
  long : length l.values ≡ length l.fn.values;
  walked : l.count < l.room → l.walk ≡ drop l.count l.fn.walk;
  keyed : l.keys ≡ written l.count (map g.P.Numbers.key_of l.fn.walk) l.fn.keys;
  valued : l.values ≡ written l.count (map g.P.Numbers.value_of l.fn.walk) l.fn.values;
}

abbrev pub decreases-loop-count : goal.decreases-loop-count
decreases-loop-count g l = l.room - l.count
