use Rattle.std.proofs.Common.{[], ◌∷◌, ◌∙◌, true, ap, arith, rules, refl, sym}
use Rattle.std.specs.Iterator.{Drains}
use Rattle.std.proofs.iter.runs.Made.{run, to_end}
use Rattle.std.proofs.lemmas.List.Sums.{fold-append}
use Rattle.indexset_core.specs.Order.{keep}
use Rattle.indexset_spine.specs.NodeList.{node_list, with_all_last}
use Rattle.indexset_set.specs.SetNodes.{nodes_kept, nodes_kept_all}
use Rattle.indexset_set.proofs.SetAppendLemmas.{all_items, all_nodes}
use Rattle.indexset_set.proofs.BTreeSet.kept_in.Goals as goal

pub loop-value-init : goal.loop-value-init
unfolding with_all_last
loop-value-init g c =
    rw (c.in_ok-set.ensures.empty, c.new-run.ensures.items) (record {
      order = λ i j d lt inside. absurd (omega (arith, lt, inside));
      kept = refl;
      nodes = refl;
      size = c.in_ok-set.ensures.size;
    })

pub keep_behind-requires : goal.keep_behind-requires
keep_behind-requires g c = record { order = c.loop-value.invariant.order }

pub loop-value-preserved : goal.loop-value-preserved
loop-value-preserved g c =
    let cmp = g.T.Ord.cmp in
    let v = c.in-Some.value in
    let came = c.loop-value.yielded in
    let held = c.loop-value.invariant in
    let step = c.in_ok-keep_behind.ensures in
    record {
      order = step.order;
      kept = step.kept ∙ (ap (λ l. keep cmp l v) held.kept ∙ sym (fold-append (keep cmp) [] came (v ∷ [])));
      nodes =
          (rw held.size at step.nodes)
          ∙ (ap (λ ns. nodes_kept cmp (node_list ns c.args.size) v) held.nodes
          ∙ sym (fold-append (λ ns x. nodes_kept cmp (node_list ns c.args.size) x) ([] ∷ []) came (v ∷ [])));
      size = step.size ∙ held.size;
    }

pub take_run-requires : goal.take_run-requires
take_run-requires g c = record { order = c.loop-value.invariant.order }

-- the loop's calls are a whole run of the iterator
pub returns-clause-kept : goal.returns-clause-kept
returns-clause-kept g c =
    let steps = g.I.IntoIter.Iterator.next_gives in
    let rest = c.into_iter-rest.result in
    let came = c.loop-value.yielded in
    let drains : Drains steps rest came = search rules in
    let items = all_items _ c.in_ok-take_run.ensures.emptied _ _ (c.take_run.ensures.items ∙ c.loop-value.invariant.kept) in
    (rest, c.into_iter-rest.ensures.into_iter_gives, (run steps rest came true (to_end steps rest came drains), refl, refl, items))

pub returns-clause-nodes : goal.returns-clause-nodes
unfolding nodes_kept_all
returns-clause-nodes g c =
    let steps = g.I.IntoIter.Iterator.next_gives in
    let rest = c.into_iter-rest.result in
    let came = c.loop-value.yielded in
    let drains : Drains steps rest came = search rules in
    let held = rw c.loop-value.invariant.size at c.take_run.ensures.nodes in
    let nodes = all_nodes _ c.in_ok-take_run.ensures.emptied c.args.size _ _ (held ∙ c.loop-value.invariant.nodes) in
    (rest, c.into_iter-rest.ensures.into_iter_gives, (run steps rest came true (to_end steps rest came drains), refl, refl, nodes))
