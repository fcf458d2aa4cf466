use Rattle.std.proofs.Common.{◌≡◌, length, replicate}
use Rattle.indexset_ffi.specs.Elements.{written}
use Rattle.indexset_ffi.proofs.write.write_same.Given as goal

-- the first elements of the slice are the answer
abbrev pub invariant-loop-i : goal.invariant-loop-i
invariant-loop-i g l = record {
  long : length l.out ≡ length l.fn.out;
  done : l.out ≡ written l.i (replicate l.asked l.answer) l.fn.out;
}
