-- The commands so far were answered, their events were collected, and the tree is as they left it.
use Rattle.std.proofs.Common.{◌≡◌, ◌/◌, length}
use Rattle.std.specs.Vec.Iter.{into_iter_items, into_iter_len}
use Rattle.indexset_bench.proofs.LoggedRuns.{LogSoFar}
use Rattle.indexset_events.specs.Merging.{IsDense}
use Rattle.indexset_bench.proofs.CommandRuns.{SoFar}
use Rattle.indexset_bench.proofs.logged_run.run_logged.Given as goal

abbrev pub invariant-loop-command : goal.invariant-loop-command
invariant-loop-command g l =
    let tree = g.L.Logged in
    record {
      so_far : SoFar tree.after tree.reply (tree.state l.fn.tree) (tree.state l.tree) l.yielded (into_iter_items l.command-iterator) l.fn.commands.items l.replies.items;
      log : LogSoFar g.L.Item.Ord.cmp tree.left tree.events tree.cloned tree.clones l.fn.tree l.tree
          (tree.nodes l.fn.tree) (tree.nodes l.tree) (tree.next l.fn.tree) (tree.next l.tree) (length l.replies.items)
          l.yielded l.events.items;
      dense : IsDense (tree.size l.fn.tree / 2) (tree.nodes l.fn.tree) → IsDense (tree.size l.tree / 2) (tree.nodes l.tree);
      left : into_iter_len l.command-iterator ≡ length (into_iter_items l.command-iterator);
      size : tree.size l.tree ≡ tree.size l.fn.tree;
    }
