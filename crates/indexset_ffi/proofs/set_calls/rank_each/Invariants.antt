use Rattle.std.proofs.Common.{◌≡◌, length, map}
use Rattle.std.specs.Ordering.{nat_cmp}
use Rattle.indexset_core.specs.Order.{rank}
use Rattle.indexset_spine.specs.NodeList.{items}
use Rattle.indexset_ffi.specs.Elements.{written}
use Rattle.indexset_ffi.proofs.set_calls.rank_each.Given as goal

-- the first elements of the slice are the ranks of the first keys
abbrev pub invariant-loop-i : goal.invariant-loop-i
invariant-loop-i l = record {
  long : length l.out ≡ length l.fn.out;
  done : l.out ≡ written l.i (map (rank nat_cmp (items l.set)) l.keys) l.fn.out;
}
