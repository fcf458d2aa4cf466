use Rattle.std.proofs.Common.{◌/◌, [], ◌∷◌, ◌++◌, length, refl, ap, subst, sym, arith, length-append, rules, ◌∙◌}
use Rattle.std.specs.Vec.Iter.{into_iter_items}
use Rattle.indexset_bench.proofs.LoggedRuns.{LogSoFar, clones_to_first, few_after, few_from_none, more_log}
use Rattle.indexset_bench.proofs.LoggedRuns.{next_command, no_log, replay_to_first, table_to_first, told_copies}
use Rattle.indexset_bench.proofs.LoggedRuns.{told_next, told_numbered, told_replayed, tree_to_first}
use Rattle.indexset_bench.proofs.CommandRuns.{replies_to_first, held_after_first, first_commands, count_of_replies, count_of_done, further}
use Rattle.indexset_bench.proofs.logged_run.run_logged.Goals as goal

pub loop-command-init : goal.loop-command-init
loop-command-init g c =
    let tree = g.L.Logged in
    let start = c.args.tree.now in
    record {
      so_far = search rules;
      log = rw (c.new-replies.ensures.items, c.new-events.ensures.items) (no_log g.L.Item.Ord.cmp tree.left tree.events tree.cloned tree.clones start (tree.nodes start) (tree.next start));
      dense = λ s. s;
      left = search rules;
      size = refl;
    }

pub loop-command-preserved : goal.loop-command-preserved
loop-command-preserved g c =
    let tree = g.L.Logged in
    let before = c.loop-command.invariant in
    let next = c.in-Some.ensures.steps.0 in
    let now = c.loop-command.tree in
    let after = c.answer.new.tree in
    let done = c.in_default.ensures in
    let log =
    more_log g.L.Item.Ord.cmp tree.left tree.events tree.cloned tree.clones c.args.tree.now
    (tree.nodes c.args.tree.now) (tree.next c.args.tree.now) now after (tree.nodes now) (tree.nodes after)
    (tree.next now) (tree.next after) (length c.loop-command.replies.items) c.loop-command.yielded c.in-Some.command
    c.loop-command.events.items c.answer.new.events.items before.log done.clones done.events done.table
    done.at_most_three_events done.next done.tree in
    record {
      so_far = further before.so_far c.in-Some.command (into_iter_items c.next.new.self) (tree.state after) c.answer.new.replies.items next done.told done.state;
      log =
          subst (λ n.
          LogSoFar g.L.Item.Ord.cmp tree.left tree.events tree.cloned tree.clones c.args.tree.now after
          (tree.nodes c.args.tree.now) (tree.nodes after) (tree.next c.args.tree.now) (tree.next after) n
          (c.loop-command.yielded ++ c.in-Some.command ∷ []) c.answer.new.events.items)
          (sym (ap (λ q. length q) done.told ∙ length-append c.loop-command.replies.items _)) log;
      dense = λ s. c.answer.ensures.dense (before.dense s);
      left = omega (arith, ap length next);
      size = cc;
    }

pub returns-in-Err-clause-replies : goal.returns-in-Err-clause-replies
returns-in-Err-clause-replies g c = rw c.in-Err.ensures.untold (replies_to_first c.loop-command.invariant.so_far)

pub returns-in-Err-clause-state : goal.returns-in-Err-clause-state
returns-in-Err-clause-state g c =
    rw (c.in-Err.ensures.untold, c.in-Err.ensures.unchanged) (held_after_first c.loop-command.invariant.so_far)

pub returns-in-Err-clause-fewer : goal.returns-in-Err-clause-fewer
returns-in-Err-clause-fewer g c =
    omega (arith, ap length c.in-Err.ensures.untold, ap length c.in-Some.ensures.steps.0, count_of_replies c.loop-command.invariant.so_far)

pub returns-in-Err-clause-refused : goal.returns-in-Err-clause-refused
returns-in-Err-clause-refused g c = λ other.
    let why = c.in-Err.ensures.refusal other in
    let far = c.loop-command.invariant.so_far in
    let next =
    next_command c.loop-command.yielded (into_iter_items c.next.new.self) c.args.commands.items c.in-Some.command
    (length c.answer.new.replies.items)
    (ap (λ r. c.loop-command.yielded ++ r) (sym c.in-Some.ensures.steps.0) ∙ far.given)
    (ap (λ q. length q) c.in-Err.ensures.untold ∙ count_of_done far) in
    (why.0, rw (next, c.in-Err.ensures.unchanged) why.1)

pub returns-clause-replies : goal.returns-clause-replies
returns-clause-replies g c = replies_to_first c.loop-command.invariant.so_far

pub returns-clause-state : goal.returns-clause-state
returns-clause-state g c = held_after_first c.loop-command.invariant.so_far

pub returns-clause-all : goal.returns-clause-all
returns-clause-all g c =
    omega (arith, c.in-None.ensures.steps.0, count_of_replies c.loop-command.invariant.so_far)

pub returns-in-Err-clause-clones : goal.returns-in-Err-clause-clones
returns-in-Err-clause-clones g c =
    rw (c.in-Err.ensures.untold, c.in-Err.ensures.no_event) (clones_to_first c.loop-command.invariant.log (first_commands c.loop-command.invariant.so_far))

pub returns-in-Err-clause-events : goal.returns-in-Err-clause-events
returns-in-Err-clause-events g c p =
    rw (c.in-Err.ensures.untold, c.in-Err.ensures.no_event) (table_to_first c.loop-command.invariant.log (first_commands c.loop-command.invariant.so_far) p)

pub returns-in-Err-clause-table : goal.returns-in-Err-clause-table
returns-in-Err-clause-table g c =
    rw (c.in-Err.ensures.untold, c.in-Err.ensures.unchanged) (replay_to_first c.loop-command.invariant.log (first_commands c.loop-command.invariant.so_far))

pub returns-in-Err-clause-replay : goal.returns-in-Err-clause-replay
returns-in-Err-clause-replay g c p = rw (c.in-Err.ensures.no_event, c.in-Err.ensures.unchanged) (told_replayed c.loop-command.invariant.log p)

pub returns-in-Err-clause-replay_of_clones : goal.returns-in-Err-clause-replay_of_clones
returns-in-Err-clause-replay_of_clones g c equal = rw (c.in-Err.ensures.no_event, c.in-Err.ensures.unchanged) (told_copies c.loop-command.invariant.log g.met.L.Item.Ord.total equal)

pub returns-in-Err-clause-numbered : goal.returns-in-Err-clause-numbered
returns-in-Err-clause-numbered g c = rw c.in-Err.ensures.no_event (told_numbered c.loop-command.invariant.log)

pub returns-in-Err-clause-next : goal.returns-in-Err-clause-next
returns-in-Err-clause-next g c = rw (c.in-Err.ensures.no_event, c.in-Err.ensures.unchanged) (told_next c.loop-command.invariant.log)

pub returns-in-Err-clause-tree : goal.returns-in-Err-clause-tree
returns-in-Err-clause-tree g c =
    rw (c.in-Err.ensures.untold, c.in-Err.ensures.unchanged) (tree_to_first c.loop-command.invariant.log (first_commands c.loop-command.invariant.so_far))

pub returns-in-Err-clause-dense : goal.returns-in-Err-clause-dense
returns-in-Err-clause-dense g c = rw c.in-Err.ensures.unchanged c.loop-command.invariant.dense

pub returns-in-Err-clause-few_nodes : goal.returns-in-Err-clause-few_nodes
returns-in-Err-clause-few_nodes g c = λ s. few_after _ _ _ _ (rw c.in-Err.ensures.unchanged c.loop-command.invariant.dense) s

pub returns-clause-clones : goal.returns-clause-clones
returns-clause-clones g c = clones_to_first c.loop-command.invariant.log (first_commands c.loop-command.invariant.so_far)

pub returns-clause-events : goal.returns-clause-events
returns-clause-events g c = table_to_first c.loop-command.invariant.log (first_commands c.loop-command.invariant.so_far)

pub returns-clause-table : goal.returns-clause-table
returns-clause-table g c = replay_to_first c.loop-command.invariant.log (first_commands c.loop-command.invariant.so_far)

pub returns-clause-replay : goal.returns-clause-replay
returns-clause-replay g c = told_replayed c.loop-command.invariant.log

pub returns-clause-replay_of_clones : goal.returns-clause-replay_of_clones
returns-clause-replay_of_clones g c = told_copies c.loop-command.invariant.log g.met.L.Item.Ord.total

pub returns-clause-numbered : goal.returns-clause-numbered
returns-clause-numbered g c = told_numbered c.loop-command.invariant.log

pub returns-clause-next : goal.returns-clause-next
returns-clause-next g c = told_next c.loop-command.invariant.log

pub returns-clause-tree : goal.returns-clause-tree
returns-clause-tree g c = tree_to_first c.loop-command.invariant.log (first_commands c.loop-command.invariant.so_far)

pub returns-clause-few_nodes : goal.returns-clause-few_nodes
returns-clause-few_nodes g c = few_after _ _ _ _ c.loop-command.invariant.dense

pub returns-in-Err-clause-few_from_empty : goal.returns-in-Err-clause-few_from_empty
returns-in-Err-clause-few_from_empty g c =
    let tree = g.L.Logged in
    let old = c.args.tree.now in
    let new = c.answer.new.tree in
    few_from_none (tree.size old / 2) (tree.size new / 2) (tree.nodes old) (tree.nodes new) (rw c.in-Err.ensures.unchanged c.loop-command.invariant.dense)

pub returns-clause-few_from_empty : goal.returns-clause-few_from_empty
returns-clause-few_from_empty g c =
    let tree = g.L.Logged in
    let old = c.args.tree.now in
    let new = c.loop-command.tree in
    few_from_none (tree.size old / 2) (tree.size new / 2) (tree.nodes old) (tree.nodes new) c.loop-command.invariant.dense
