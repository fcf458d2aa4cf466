use Rattle.std.proofs.Common.{◌≡◌, ◌≤◌, length, drop}
use Rattle.indexset_core.specs.Pairs.{pair_keys, pair_values}
use Rattle.indexset_ffi.specs.Elements.{written}
use Rattle.indexset_ffi.proofs.log_calls.write_logged.Given as goal

-- the first elements of the slices are the items so far, and the iterator has the rest
abbrev pub invariant-loop-count : goal.invariant-loop-count
invariant-loop-count l = record {
  inside : l.count ≤ length l.fn.walk;
  room : l.count ≤ l.room;
  many : length l.keys ≡ length l.fn.keys;
  long : length l.values ≡ length l.fn.values;
  walked : l.walk ≡ drop l.count l.fn.walk;
  keyed : l.keys ≡ written l.count (pair_keys l.fn.walk) l.fn.keys;
  valued : l.values ≡ written l.count (pair_values l.fn.walk) l.fn.values;
}
