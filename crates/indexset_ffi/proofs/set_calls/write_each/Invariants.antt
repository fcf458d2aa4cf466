use Rattle.std.proofs.Common.{◌≡◌, ◌≤◌, length, drop}
use Rattle.indexset_ffi.specs.Elements.{written}
use Rattle.indexset_ffi.proofs.set_calls.write_each.Given as goal

-- the first elements of the slices are the items so far, and the iterator has the rest
abbrev pub invariant-loop-count : goal.invariant-loop-count
invariant-loop-count l = record {
  inside : l.count ≤ length l.fn.walk;
  room : l.count ≤ length l.out;
  long : length l.out ≡ length l.fn.out;
  walked : l.walk ≡ drop l.count l.fn.walk;
  done : l.out ≡ written l.count l.fn.walk l.fn.out;
}
