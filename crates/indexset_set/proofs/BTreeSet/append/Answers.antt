use Rattle.std.proofs.Common.{◌∙◌, refl}
use Rattle.std.proofs.lemmas.Result.{on_ok_weaker}
use Rattle.indexset_core.specs.Order.{put}
use Rattle.indexset_core.proofs.CallerLemmas.{on_err}
use Rattle.indexset_spine.specs.NodeList.{node_list, items}
use Rattle.indexset_spine.specs.Edits.{FoldsPrefix}
use Rattle.indexset_spine.proofs.CallerLemmas.{takes_more}
use Rattle.indexset_set.specs.SetNodes.{nodes_put}
use Rattle.indexset_set.proofs.SetAppendLemmas.{nodes_all, puts_some}
use Rattle.indexset_set.proofs.SetBulkLemmas.{moved_all, moves_some}
use Rattle.indexset_set.proofs.BTreeSet.append.Given.{Over}
use Rattle.indexset_set.proofs.BTreeSet.append.Goals as goal
use Rattle.indexset_set.proofs.BTreeSet.append.Goals.{After-append_above}

pub returns-in_err-near-clause-err : goal.returns-in_err-near-clause-err
returns-in_err-near-clause-err g c =
    let kept = c.in_err-near.ensures in
    on_err c.from_residual.result (rw (kept.unchanged, kept.other_unchanged) (moves_some g.T.Ord.cmp _ _ _ _ c.loop-self.invariant.moved))

pub returns-in_err-near-clause-err_nodes : goal.returns-in_err-near-clause-err_nodes
returns-in_err-near-clause-err_nodes g c =
    let kept = c.in_err-near.ensures in
    on_err c.from_residual.result (rw (kept.unchanged, kept.other_unchanged) (puts_some g.T.Ord.cmp c.args.self.now.size _ _ _ _ refl c.loop-self.invariant.nodes))

pub loop-self-preserved : goal.loop-self-preserved
loop-self-preserved g c =
    let step = c.in_ok-near.ensures in
    record {
      moved = takes_more (put g.T.Ord.cmp) _ _ _ _ _ _ c.loop-self.invariant.moved step.moved;
      nodes = takes_more (λ ns x. nodes_put g.T.Ord.cmp (node_list ns c.args.self.now.size) x) _ _ _ _ _ _ c.loop-self.invariant.nodes (rw c.loop-self.invariant.size at step.nodes);
      size = step.size ∙ c.loop-self.invariant.size;
      other_size = step.other_size ∙ c.loop-self.invariant.other_size;
    }

module _ (g : Over) (c : After-append_above g) where
  moved : FoldsPrefix (put g.T.Ord.cmp) (items c.args.self.now) (items c.args.other.now) (items c.append_above.new.self) (items c.append_above.new.other)
  moved = takes_more (put g.T.Ord.cmp) _ _ _ _ _ _ c.loop-self.invariant.moved c.append_above.ensures.moved

  nodes : FoldsPrefix (λ ns x. nodes_put g.T.Ord.cmp (node_list ns c.args.self.now.size) x) c.args.self.now.nodes
      (items c.args.other.now) c.append_above.new.self.nodes (items c.append_above.new.other)
  nodes = takes_more (λ ns x. nodes_put g.T.Ord.cmp (node_list ns c.args.self.now.size) x) _ _ _ _ _ _ c.loop-self.invariant.nodes (rw c.loop-self.invariant.size at c.append_above.ensures.nodes)

pub returns-clause-ok : goal.returns-clause-ok
returns-clause-ok g c = on_ok_weaker c.append_above.result (moved_all g.T.Ord.cmp _ _ _ _ (moved g c)) c.append_above.ensures.emptied

pub returns-clause-nodes : goal.returns-clause-nodes
returns-clause-nodes g c = on_ok_weaker c.append_above.result (nodes_all g.T.Ord.cmp c.args.self.now.size c.args.self.now _ _ _ refl (nodes g c)) c.append_above.ensures.emptied

pub returns-clause-err : goal.returns-clause-err
returns-clause-err g c = on_err c.append_above.result (moves_some g.T.Ord.cmp _ _ _ _ (moved g c))

pub returns-clause-err_nodes : goal.returns-clause-err_nodes
returns-clause-err_nodes g c = on_err c.append_above.result (puts_some g.T.Ord.cmp c.args.self.now.size c.args.self.now _ _ _ refl (nodes g c))
