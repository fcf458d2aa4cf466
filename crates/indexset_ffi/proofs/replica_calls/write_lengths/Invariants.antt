use Rattle.std.proofs.Common.{◌≡◌, length}
use Rattle.indexset_core.specs.Nodes.{node_lengths, vec_items}
use Rattle.indexset_ffi.specs.Elements.{written}
use Rattle.indexset_ffi.proofs.replica_calls.write_lengths.Given as goal

-- the first elements of the slice are the first lengths
abbrev pub invariant-loop-i : goal.invariant-loop-i
invariant-loop-i l = record {
  long : length l.out ≡ length l.fn.out;
  done : l.out ≡ written l.i (node_lengths (vec_items l.nodes)) l.fn.out;
}
