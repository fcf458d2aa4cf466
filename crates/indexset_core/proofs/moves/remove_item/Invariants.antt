use Rattle.std.proofs.Common.{◌≡◌, ◌-◌, ◌≤◌, insert, remove, slice_index_or, vec_len, vec_capacity}
use Rattle.indexset_core.proofs.moves.remove_item.Given as goal

abbrev pub invariant-loop-at : goal.invariant-loop-at
invariant-loop-at g l = record {
  turned : (d : g.row.T.Denot) → l.items.items ≡ insert (remove l.initial.items.items l.index) l.at (slice_index_or l.initial.items.items l.index d);
  count : vec_len l.items ≡ vec_len l.initial.items;
  within : l.at ≤ l.last;
  capacity : vec_capacity l.items ≡ vec_capacity l.initial.items;
}

abbrev pub decreases-loop-at : goal.decreases-loop-at
decreases-loop-at g l = l.last - l.at
