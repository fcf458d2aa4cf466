use Rattle.std.proofs.Common.{ap, ◌∙◌}
use Rattle.indexset_core.specs.Nodes.{concat}
use Rattle.indexset_core.specs.Parted.{less_count}
use Rattle.indexset_core.proofs.CallerLemmas.{IsRank, rank_is}
use Rattle.indexset_log.proofs.set.BTreeSet.rank.Given.{Over}
use Rattle.indexset_log.proofs.set.BTreeSet.rank.Goals.{After-drop-value}
use Rattle.indexset_log.proofs.set.BTreeSet.rank.Goals as goal

told : (g : Over) (c : After-drop-value g) → IsRank (λ x. g.Q.LookupKey.order x c.args.value) (concat c.args.self.now.nodes) c.count_before.result
told g c =
    let l = concat c.args.self.now.nodes in
    rank_is _ l c.by_item.ensures.parted c.count_before.result (c.count_before.ensures ∙ ap (λ p. less_count (λ x. g.Q.LookupKey.order x p.0) l) c.by_item.ensures.probe)

pub returns-clause-at_rank : goal.returns-clause-at_rank
returns-clause-at_rank g c = (told g c).there

pub returns-clause-inside : goal.returns-clause-inside
returns-clause-inside g c = (told g c).inside

pub returns-clause-before : goal.returns-clause-before
returns-clause-before g c = (told g c).before
