use Rattle.std.proofs.Common.{◌≡◌, length, map}
use Rattle.indexset_ffi.specs.Elements.{value_or, written}
use Rattle.indexset_ffi.proofs.map_calls.value_each.Given as goal

-- the first elements of the slice are the values of the first keys
abbrev pub invariant-loop-i : goal.invariant-loop-i
invariant-loop-i l = record {
  long : length l.out ≡ length l.fn.out;
  done : l.out ≡ written l.i (map (value_or l.held.pairs l.absent) l.keys) l.fn.out;
}
