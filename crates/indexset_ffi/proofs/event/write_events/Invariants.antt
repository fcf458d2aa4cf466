use Rattle.std.proofs.Common.{◌≡◌, length, map}
use Rattle.indexset_ffi.specs.Elements.{written}
use Rattle.indexset_ffi.specs.Events.{record_of}
use Rattle.indexset_ffi.proofs.event.write_events.Given as goal

-- the first elements of the slice are the first records
abbrev pub invariant-loop-i : goal.invariant-loop-i
invariant-loop-i l = record {
  long : length l.out ≡ length l.fn.out;
  done : l.out ≡ written l.i (map record_of l.events) l.fn.out;
}
