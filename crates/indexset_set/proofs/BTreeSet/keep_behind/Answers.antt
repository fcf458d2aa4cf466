use Rattle.std.proofs.Common.{◌≡◌, ◌∙◌, rules, subst}
use Rattle.std.proofs.lemmas.List.{append-nil}
use Rattle.indexset_core.specs.Order.{IsAscending, keep}
use Rattle.indexset_spine.specs.NodeList.{items}
use Rattle.indexset_set.specs.SetNodes.{nodes_kept}
use Rattle.indexset_set.proofs.SetAppendLemmas.{run_kept, run_nodes, run_then_kept, run_then_nodes}
use Rattle.indexset_set.proofs.BTreeSet.keep_behind.Goals as goal

pub join_run-requires : goal.join_run-requires
join_run-requires g c = record { order = c.requires.order }

pub returns-in-Ok-None-clause-order : goal.returns-in-Ok-None-clause-order
returns-in-Ok-None-clause-order g c = c.in-Ok-None.ensures.order

pub returns-in-Ok-None-clause-kept : goal.returns-in-Ok-None-clause-kept
returns-in-Ok-None-clause-kept g c =
    let concat = (rw c.in-Ok-None.is at c.join_run.ensures.items) c.in-Ok-None.field-0-is in
    concat
    ∙ run_kept g.T.Ord.cmp c.args.self.now.size c.args.self.now.nodes c.args.run.now.items c.args.value
    c.recall_order.ensures.cut
    (subst (IsAscending g.T.Ord.cmp) concat (rw c.in-Ok-None.is at c.join_run.ensures.order))

pub returns-in-Ok-None-clause-nodes : goal.returns-in-Ok-None-clause-nodes
returns-in-Ok-None-clause-nodes g c =
    let concat = (rw c.in-Ok-None.is at c.join_run.ensures.items) c.in-Ok-None.field-0-is in
    (rw c.in-Ok-None.is at c.join_run.ensures.nodes) c.in-Ok-None.field-0-is
    ∙ run_nodes g.T.Ord.cmp c.args.self.now.size c.args.self.now.nodes c.args.run.now.items c.args.value
    c.recall_order.ensures.cut
    (subst (IsAscending g.T.Ord.cmp) concat (rw c.in-Ok-None.is at c.join_run.ensures.order))

pub returns-in_ok-insert-in-Ok-Some-clause-order : goal.returns-in_ok-insert-in-Ok-Some-clause-order
returns-in_ok-insert-in-Ok-Some-clause-order g c =
    let emptied = rw c.in-Ok-Some.field-0-is at (rw c.in-Ok-Some.is at c.join_run.ensures.emptied) in
    rw (emptied, append-nil) c.recall_order-in-Ok-Some.ensures.ascending

pub returns-in_ok-insert-in-Ok-Some-clause-kept : goal.returns-in_ok-insert-in-Ok-Some-clause-kept
returns-in_ok-insert-in-Ok-Some-clause-kept g c =
    let kept : items c.insert.new.self ≡ keep g.T.Ord.cmp (items c.join_run.new.set) c.in-Ok-Some.value = search rules in
    let emptied = rw c.in-Ok-Some.field-0-is at (rw c.in-Ok-Some.is at c.join_run.ensures.emptied) in
    let moved = rw c.in-Ok-Some.field-0-is at (rw c.in-Ok-Some.is at c.join_run.ensures.moved) in
    let same = rw c.in-Ok-Some.field-0-is at (rw c.in-Ok-Some.is at c.join_run.ensures.back) in
    run_then_kept g.T.Ord.cmp c.args.self.now.size c.args.self.now.nodes c.join_run.new.set.nodes
    c.args.run.now.items c.join_run.new.run.items c.args.value c.in-Ok-Some.value emptied moved same _
    c.recall_order.ensures.cut kept

pub returns-in_ok-insert-in-Ok-Some-clause-nodes : goal.returns-in_ok-insert-in-Ok-Some-clause-nodes
returns-in_ok-insert-in-Ok-Some-clause-nodes g c =
    let kept : c.insert.new.self.nodes ≡ nodes_kept g.T.Ord.cmp c.join_run.new.set c.in-Ok-Some.value = search rules in
    let emptied = rw c.in-Ok-Some.field-0-is at (rw c.in-Ok-Some.is at c.join_run.ensures.emptied) in
    let moved = rw c.in-Ok-Some.field-0-is at (rw c.in-Ok-Some.is at c.join_run.ensures.moved) in
    let same = rw c.in-Ok-Some.field-0-is at (rw c.in-Ok-Some.is at c.join_run.ensures.back) in
    run_then_nodes g.T.Ord.cmp c.args.self.now.size c.args.self.now.nodes c.join_run.new.set.nodes
    c.args.run.now.items c.join_run.new.run.items c.args.value c.in-Ok-Some.value emptied moved same _ _
    c.join_run.ensures.size kept
