-- The commands so far were answered, and the set is as they left it.
use Rattle.std.proofs.Common.{◌≡◌, length}
use Rattle.std.specs.Vec.Iter.{into_iter_items, into_iter_len}
use Rattle.indexset_spine.specs.NodeList.{items}
use Rattle.indexset_bench.specs.SetRun.{IsSetReply, set_reply, set_after}
use Rattle.indexset_bench.proofs.ClonedRuns.{ClonedSoFar}
use Rattle.indexset_bench.proofs.set_run.run_set.Given as goal

abbrev pub invariant-loop-command : goal.invariant-loop-command
invariant-loop-command g l = record {
  so_far : ClonedSoFar (set_after g.T.Ord.cmp) (set_reply g.T.Ord.cmp) (IsSetReply g.T.Ord.cmp g.T.Clone.is_clone)
      ((x y : _) → g.T.Clone.is_clone x y → y ≡ x) (items l.fn.set) (items l.set) l.yielded
      (into_iter_items l.command-iterator) l.fn.commands.items l.replies.items;
  left : into_iter_len l.command-iterator ≡ length (into_iter_items l.command-iterator);
  size : l.set.size ≡ l.fn.set.size;
}
