use Rattle.std.proofs.Common.{ap, ◌∙◌, rules}
use Rattle.sqlite_trees.specs.Tree.{order_of, from_key}
use Rattle.sqlite_trees.specs.View.{with_cursor}
use Rattle.indexset_journal.proofs.Steps.{clean_before, none_left, all_sought, places, writes_any, writes_on}
use Rattle.indexset_journal.proofs.write.take_all.Goals as goal

pub returns-then-not-branch-clause-ok : goal.returns-then-not-branch-clause-ok
returns-then-not-branch-clause-ok g c clean =
    let old = g.S.Store.view c.args.store.now in
    let was = g.S.Store.view c.rows.store in
    let mid = g.S.Store.view c.seek.new.self in
    let new = g.S.Store.view c.next.new.self in
    let ended = rw c.if-not-branch.true at (c.in_ok-next.ensures.ok clean) in
    let before = clean_before mid new c.next.ensures.quiet.clean clean in
    let sought = rw c.clear.ensures at (c.in_ok-seek.ensures.ok before) in
    let writes = c.rows.invariant.writes (clean_before was mid c.seek.ensures.quiet.clean before) in
    record {
      this = none_left was mid new (order_of (was.shape 0)) sought ended;
      rest =
          writes_on old mid new
          (writes_on old was mid writes
          (places was mid 0 (was.trees 0)
          (sought ∙ ap (with_cursor was 0) (all_sought (order_of (was.shape 0)) (was.trees 0)))))
          (writes_any mid new mid.trees mid.cursors ended.1);
    }

pub rows-preserved : goal.rows-preserved
rows-preserved g c = record {
  quiet = search rules;
  writes = λ clean.
      let old = g.S.Store.view c.args.store.now in
      let was = g.S.Store.view c.rows.store in
      let mid = g.S.Store.view c.seek.new.self in
      let read = g.S.Store.view c.next.new.self in
      let new = g.S.Store.view c.delete.new.self in
      let found = clean_before read new c.delete.ensures.quiet.clean clean in
      let before = clean_before mid read c.next.ensures.quiet.clean found in
      let writes = c.rows.invariant.writes (clean_before was mid c.seek.ensures.quiet.clean before) in
      let sought = places was mid 0 (from_key (order_of (was.shape 0)) c.clear.new.self (was.trees 0)) (c.in_ok-seek.ensures.ok before) in
      let moved = writes_any mid read mid.trees read.cursors (c.in_ok-next.ensures.moves found).same in
      writes_on old read new (writes_on old mid read (writes_on old was mid writes sought) moved) (c.in_ok-delete.ensures.frame clean);
}
