use Rattle.std.proofs.Common.{◌≡◌, ◌≤◌, ◌+◌, ◌++◌, length, vec_len, vec_capacity}
use Rattle.std.specs.Vec.Iter.{drain_items, DrainKeeps}
use Rattle.indexset_core.proofs.moves.move_front.Given as goal

abbrev pub invariant-loop-item : goal.invariant-loop-item
invariant-loop-item g l = record {
  callable : (goal.iterator-loop-item g).can_next l.item-iterator;
  finite : (goal.iterator-loop-item g).is_finite l.item-iterator;
  keeps : DrainKeeps l.initial.item-iterator l.item-iterator;
  moved : l.other.items ++ drain_items l.item-iterator ≡ l.initial.other.items ++ drain_items l.initial.item-iterator;
  same : vec_capacity l.other ≡ vec_capacity l.initial.other;
  room : vec_len l.other + length (drain_items l.item-iterator) ≤ vec_capacity l.other;
}
