use Rattle.std.proofs.Common.{◌≡◌, length, refl, ap, arith, rules}
use Rattle.std.specs.Vec.Iter.{into_iter_items}
use Rattle.indexset_spine.specs.NodeList.{items}
use Rattle.indexset_bench.proofs.ClonedRuns.{clones_to_first, count_answered, further_cloned, held_to_first, none_cloned, told_to_first}
use Rattle.indexset_bench.proofs.set_run.run_set.Goals as goal

pub loop-command-init : goal.loop-command-init
loop-command-init g c =
    let all : into_iter_items c.into_iter-command-iterator.result ≡ c.args.commands.items = search rules in
    record {
      so_far = none_cloned (items c.args.set.now) (into_iter_items c.into_iter-command-iterator.result) c.args.commands.items c.new-replies.result.items all c.new-replies.ensures.items;
      left = search rules;
      size = refl;
    }

pub loop-command-preserved : goal.loop-command-preserved
loop-command-preserved g c =
    let before = c.loop-command.invariant in
    let next = c.in-Some.ensures.steps.0 in
    record {
      so_far =
          further_cloned before.so_far c.in-Some.command (into_iter_items c.next.new.self) (items c.answer.new.set)
          c.answer.new.replies.items next c.in_default.ensures.cloned c.in_default.ensures.told c.in_default.ensures.ok;
      left = omega (arith, ap length next);
      size = cc;
    }

pub returns-in-Err-clause-replies : goal.returns-in-Err-clause-replies
returns-in-Err-clause-replies g c = λ same. rw c.in-Err.ensures.untold (told_to_first c.loop-command.invariant.so_far same)

pub returns-in-Err-clause-contents : goal.returns-in-Err-clause-contents
returns-in-Err-clause-contents g c =
    rw (c.in-Err.ensures.untold, c.in-Err.ensures.unchanged) (held_to_first c.loop-command.invariant.so_far)

pub returns-in-Err-clause-fewer : goal.returns-in-Err-clause-fewer
returns-in-Err-clause-fewer g c =
    omega (arith, ap length c.in-Err.ensures.untold, ap length c.in-Some.ensures.steps.0, count_answered c.loop-command.invariant.so_far)

pub returns-clause-replies : goal.returns-clause-replies
returns-clause-replies g c = told_to_first c.loop-command.invariant.so_far

pub returns-clause-contents : goal.returns-clause-contents
returns-clause-contents g c = held_to_first c.loop-command.invariant.so_far

pub returns-clause-all : goal.returns-clause-all
returns-clause-all g c =
    omega (arith, c.in-None.ensures.steps.0, count_answered c.loop-command.invariant.so_far)

pub returns-in-Err-clause-cloned : goal.returns-in-Err-clause-cloned
returns-in-Err-clause-cloned g c = rw c.in-Err.ensures.untold (clones_to_first c.loop-command.invariant.so_far)

pub returns-clause-cloned : goal.returns-clause-cloned
returns-clause-cloned g c = clones_to_first c.loop-command.invariant.so_far
