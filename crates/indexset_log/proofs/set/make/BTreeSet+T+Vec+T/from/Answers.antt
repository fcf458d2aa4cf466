use Rattle.std.proofs.Common.{◌≡◌, ◌<◌, fold, take, ap, subst, ◌∙◌}
use Rattle.std.specs.Vec.Iter.{into_iter_items}
use Rattle.std.proofs.iter.runs.Made.{seen}
use Rattle.std.below.core.specs.declared.int.u64.TheConstants.{MAX}
use Rattle.indexset_core.specs.declared.constants.TheConstants.{DEFAULT_INNER_SIZE}
use Rattle.indexset_log.specs.Edits.{after_checked_put}
use Rattle.indexset_log.specs.Tree.{fresh}
use Rattle.indexset_log.proofs.TreeViewLemmas.{front_of_run}
use Rattle.indexset_log.proofs.set.make.BTreeSet+T+Vec+T.from.Goals as goal

-- the items so far are a prefix of the list
pub returns-clause-numbers : goal.returns-clause-numbers
returns-clause-numbers g c out =
    let told = c.from_iter.ensures.numbers out in
    let made = told.1 in
    let run = told.2.0 in
    let all : into_iter_items run.from ≡ c.args.values.items = ap into_iter_items told.2.1 ∙ made.0 in
    let front : run.items ≡ take run.len c.args.values.items = subst (λ xs. run.items ≡ take run.len xs) all (front_of_run run (into_iter_items run.from) (made.3 run (seen run.len))) in
    (run.len, subst (λ xs. MAX < (fold (after_checked_put g.T.Ord.cmp) (fresh DEFAULT_INNER_SIZE) xs).next) front told.2.2)
