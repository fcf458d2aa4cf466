use Rattle.std.proofs.Common.{◌≡◌, length, map}
use Rattle.indexset_ffi.specs.Elements.{written}
use Rattle.indexset_ffi.proofs.next.write_numbers_of.Given as goal

-- the first elements of the slices are the keys and the values of the first items
abbrev pub invariant-loop-i : goal.invariant-loop-i
invariant-loop-i g l = record {
  many : length l.keys ≡ length l.fn.keys;
  long : length l.values ≡ length l.fn.values;
  keyed : l.keys ≡ written l.i (map g.P.Numbers.key_of l.run) l.fn.keys;
  valued : l.values ≡ written l.i (map g.P.Numbers.value_of l.run) l.fn.values;
}
