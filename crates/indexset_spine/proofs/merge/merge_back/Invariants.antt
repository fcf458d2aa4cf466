-- Some last items are in the third list, in reverse.
use Rattle.std.proofs.Common.{◌≡◌, ◌+◌, ◌≤◌, vec_len, vec_capacity}
use Rattle.std.specs.List.{fold}
use Rattle.indexset_core.specs.Order.{put}
use Rattle.indexset_spine.proofs.PutLemmas.{IsMerging}
use Rattle.indexset_spine.proofs.merge.merge_back.Given as goal

abbrev pub invariant-loop-items : goal.invariant-loop-items
invariant-loop-items g l = record {
  merging : IsMerging g.T.Ord.cmp l.items.items l.run.items l.merged.items (fold (put g.T.Ord.cmp) l.initial.items.items l.initial.run.items);
  length_bound : vec_len l.items + vec_len l.run + vec_len l.merged ≤ vec_len l.initial.items + vec_len l.initial.run;
  capacity : vec_capacity l.items ≡ vec_capacity l.initial.items;
  room : vec_capacity l.merged ≡ vec_capacity l.initial.merged;
}

abbrev pub decreases-loop-items : goal.decreases-loop-items
decreases-loop-items g l = vec_len l.items + vec_len l.run
