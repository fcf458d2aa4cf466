-- The commands so far were answered, and the map is as they left it.
use Rattle.std.proofs.Common.{◌≡◌, length}
use Rattle.std.specs.Vec.Iter.{into_iter_items, into_iter_len}
use Rattle.indexset_bench.specs.MapRun.{IsMapReply, map_reply, map_after}
use Rattle.indexset_bench.proofs.ClonedRuns.{ClonedSoFar}
use Rattle.indexset_bench.proofs.map_run.run_map.Given as goal

abbrev pub invariant-loop-command : goal.invariant-loop-command
invariant-loop-command g l = record {
  so_far : ClonedSoFar (map_after g.K.Ord.cmp) (map_reply g.K.Ord.cmp)
      (IsMapReply g.K.Ord.cmp g.K.Clone.is_clone g.V.Clone.is_clone)
      (((x y : _) → g.K.Clone.is_clone x y → y ≡ x) × ((x y : _) → g.V.Clone.is_clone x y → y ≡ x)) l.fn.map.pairs
      l.map.pairs l.yielded (into_iter_items l.command-iterator) l.fn.commands.items l.replies.items;
  left : into_iter_len l.command-iterator ≡ length (into_iter_items l.command-iterator);
  size : l.map.size ≡ l.fn.map.size;
}
