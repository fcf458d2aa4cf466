use Rattle.std.proofs.Common.{◌<◌, true, false, rules, refl, sym, ap, subst, ◌∙◌, Some, [], ◌∷◌, ◌++◌}
use Rattle.std.below.core.specs.declared.int.u64.TheConstants.{MAX}
use Rattle.std.proofs.lemmas.List.Sums.{fold-append}
use Rattle.indexset_core.specs.declared.constants.TheConstants.{DEFAULT_INNER_SIZE}
use Rattle.indexset_core.specs.Order.{keep}
use Rattle.indexset_log.specs.Edits.{after_checked_put}
use Rattle.indexset_log.specs.Tree.{fresh}
use Rattle.indexset_log.proofs.TreeViewLemmas.{ran_out}
use Rattle.std.specs.Iterator.{Drains, YieldsThen}
use Rattle.std.proofs.iter.runs.Made.{run, to_end, to_item}
use Rattle.indexset_log.proofs.set.make.BTreeSet+T+Vec+T.from_iter.Goals as goal

-- the loop's calls are a whole run of the iterator
pub returns-clause-contents : goal.returns-clause-contents
returns-clause-contents g c =
    let steps = g.I.IntoIter.Iterator.next_gives in
    let rest = c.into_iter-rest.result in
    let came = c.loop-value.yielded in
    let drains : Drains steps rest came = search rules in
    (rest, c.into_iter-rest.ensures.into_iter_gives, (run steps rest came true (to_end steps rest came drains), refl, refl, c.loop-value.invariant.contents))

pub returns-clause-tree : goal.returns-clause-tree
returns-clause-tree g c =
    let steps = g.I.IntoIter.Iterator.next_gives in
    let rest = c.into_iter-rest.result in
    let came = c.loop-value.yielded in
    let drains : Drains steps rest came = search rules in
    (rest, c.into_iter-rest.ensures.into_iter_gives, (run steps rest came true (to_end steps rest came drains), refl, refl, c.loop-value.invariant.tree))

pub returns-in_err-insert-clause-numbers : goal.returns-in_err-insert-clause-numbers
returns-in_err-insert-clause-numbers g c out =
    let steps = g.I.IntoIter.Iterator.next_gives in
    let rest = c.into_iter-rest.result in
    let came = c.loop-value.yielded in
    let v = c.in-Some.value in
    let last : YieldsThen steps rest came (Some v) c.next.new.self = search rules in
    let past : MAX < (after_checked_put g.T.Ord.cmp c.loop-value.set v).next = ran_out _ _ ((rw out at c.from_residual.ensures.1) ∙ c.in_err-insert.ensures.refusal) in
    let whole = fold-append (after_checked_put g.T.Ord.cmp) (fresh DEFAULT_INNER_SIZE) came (v ∷ []) ∙ ap (λ t. after_checked_put g.T.Ord.cmp t v) (sym c.loop-value.invariant.tree) in
    (rest, c.into_iter-rest.ensures.into_iter_gives, (run steps rest (came ++ (v ∷ [])) false (to_item steps rest _ came v last), refl, subst (λ t. MAX < t.next) (sym whole) past))

pub loop-value-preserved : goal.loop-value-preserved
loop-value-preserved g c =
    let cmp = g.T.Ord.cmp in
    let came = c.loop-value.yielded in
    let v = c.in-Some.value in
    let before = c.loop-value.invariant in
    let done = c.in_ok-insert.ensures.changed in
    record {
      contents = done.contents ∙ sym (fold-append (keep cmp) [] came (v ∷ []) ∙ ap (λ l. keep cmp l v) (sym before.contents));
      tree = done.tree ∙ sym (fold-append (after_checked_put cmp) (fresh DEFAULT_INNER_SIZE) came (v ∷ []) ∙ ap (λ t. after_checked_put cmp t v) (sym before.tree));
    }
