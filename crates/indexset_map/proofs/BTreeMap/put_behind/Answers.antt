use Rattle.std.proofs.Common.{◌≡◌, rules}
use Rattle.indexset_map.specs.Contents.{contents, with_entry}
use Rattle.indexset_map.proofs.RunLemmas.{run_joined, run_then_put}
use Rattle.indexset_map.proofs.BTreeMap.put_behind.Goals as goal

pub returns-in-Ok-None-clause-inserted : goal.returns-in-Ok-None-clause-inserted
returns-in-Ok-None-clause-inserted g c =
    run_joined g.K.Ord.cmp g.met.K.Ord.total c.self.inside.set c.join_run-joined.new.set c.args.self.now
    c.self.view_is c.join_run-joined.ensures.size c.args.run.now.items c.join_run-joined.new.run.items
    c.recall_order.ensures.cut _ c.recall_order-2.ensures.cut
    (rw c.in-Ok-None.is at c.join_run-joined.ensures.order)
    ((rw c.in-Ok-None.is at c.join_run-joined.ensures.items) c.in-Ok-None.field-0-is)
    ((rw c.in-Ok-None.is at c.join_run-joined.ensures.nodes) c.in-Ok-None.field-0-is)

pub returns-in_ok-insert-in-Ok-Some-clause-inserted : goal.returns-in_ok-insert-in-Ok-Some-clause-inserted
returns-in_ok-insert-in-Ok-Some-clause-inserted g c =
    let same = rw c.in-Ok-Some.field-0-is at (rw c.in-Ok-Some.is at c.join_run-joined.ensures.back) in
    let emptied = rw c.in-Ok-Some.field-0-is at (rw c.in-Ok-Some.is at c.join_run-joined.ensures.emptied) in
    let moved = rw c.in-Ok-Some.field-0-is at (rw c.in-Ok-Some.is at c.join_run-joined.ensures.moved) in
    let up = rw (← c.self.view_is) at c.requires.order in
    let put : c.insert.new.self ≡ with_entry g.K.Ord.cmp (contents c.join_run-joined.new.set) c.in-Ok-Some.field-0-0.key c.in-Ok-Some.field-0-0.value = search rules in
    run_then_put g.K.Ord.cmp g.met.K.Ord.total c.self.inside.set c.join_run-joined.new.set c.args.self.now
    c.self.view_is c.join_run-joined.ensures.size c.args.run.now.items c.join_run-joined.new.run.items
    c.recall_order.ensures.cut _ c.in-Ok-Some.field-0-0 c.insert.new.self same emptied up moved put
