use Rattle.std.proofs.Common.{◌≡◌, [], ◌∷◌, ◌++◌, sym, subst}
use Rattle.indexset_core.specs.Order.{IsAscending}
use Rattle.indexset_spine.specs.NodeList.{items}
use Rattle.indexset_set.proofs.SetAppendLemmas.{all_nodes, pushed_items, pushed_nodes}
use Rattle.indexset_set.proofs.inner.runs.join_run.Given.{Over}
use Rattle.indexset_set.proofs.inner.runs.join_run.Goals as goal
use Rattle.indexset_set.proofs.inner.runs.join_run.Goals.{After-push_reserved}

pub is_above-joins-requires : goal.is_above-joins-requires
is_above-joins-requires g c = record { order = rw c.as_slice.ensures.value c.requires.order }

pub ready_run-requires : goal.ready_run-requires
ready_run-requires g c = record { order = c.requires.order }

module _ (g : Over) (c : After-push_reserved g) where
  all : items c.ready_run.new.set ++ c.push_reserved.new.self.items ≡ items c.args.set.now ++ (c.args.run.now.items ++ c.args.value ∷ [])
  all = rw (c.push_reserved.ensures.items) (pushed_items c.args.run.now.items c.ready_run.new.run.items c.args.value _ _ c.ready_run.ensures.items)

pub returns-in-Ok-clause-order : goal.returns-in-Ok-clause-order
returns-in-Ok-clause-order g c =
    let at = (goal.at.returns-in-Ok-clause-order g c).After-push_reserved in
    subst (IsAscending g.T.Ord.cmp) (sym (all g at)) (rw c.as_slice.ensures.value at (c.is_above-joins.ensures c.if-joins.true))

pub returns-in-Ok-clause-items : goal.returns-in-Ok-clause-items
returns-in-Ok-clause-items g c = λ _. all g (goal.at.returns-in-Ok-clause-items g c).After-push_reserved

pub returns-in-Ok-clause-nodes : goal.returns-in-Ok-clause-nodes
returns-in-Ok-clause-nodes g c =
    λ _. rw (c.push_reserved.ensures.items) (pushed_nodes _ c.ready_run.new.run.items c.args.value _ _ c.ready_run.new.set.nodes c.ready_run.ensures.nodes)

pub returns-in-Ok-2-clause-order : goal.returns-in-Ok-2-clause-order
returns-in-Ok-2-clause-order g c = rw c.ready_run.ensures.items c.requires.order

pub returns-in-Ok-2-clause-moved : goal.returns-in-Ok-2-clause-moved
returns-in-Ok-2-clause-moved g c =
    all_nodes _ (c.in-Ok-2.ensures.emptied c.if-joins.false) _ _ _ c.ready_run.ensures.nodes
