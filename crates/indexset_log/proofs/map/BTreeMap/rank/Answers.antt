use Rattle.std.proofs.Common.{◌≡◌, ap, subst, ◌∙◌}
use Rattle.indexset_core.specs.Nodes.{concat}
use Rattle.indexset_core.specs.Parted.{less_count}
use Rattle.indexset_core.proofs.CallerLemmas.{IsRank, rank_is}
use Rattle.indexset_log.proofs.map.BTreeMap.rank.Given.{Over}
use Rattle.indexset_log.proofs.map.BTreeMap.rank.Goals.{After-drop-key}
use Rattle.indexset_log.proofs.map.BTreeMap.rank.Goals as goal

told : (g : Over) (c : After-drop-key g) → IsRank (λ p. g.Q.LookupKey.order p.key c.args.key) (concat c.args.self.now.nodes) c.count_before.result
told g c =
    let l = concat c.args.self.now.nodes in
    rank_is _ l c.by_key.ensures.parted c.count_before.result
    (subst
    (λ t. c.count_before.result ≡ less_count (λ x. g.Q.LookupKey.order x.key c.by_key.result.0) (concat t.nodes))
    c.self.view_is c.count_before.ensures
    ∙ ap (λ p. less_count (λ x. g.Q.LookupKey.order x.key p.0) l) c.by_key.ensures.probe)

pub returns-clause-at_rank : goal.returns-clause-at_rank
returns-clause-at_rank g c = (told g c).there

pub returns-clause-inside : goal.returns-clause-inside
returns-clause-inside g c = (told g c).inside

pub returns-clause-before : goal.returns-clause-before
returns-clause-before g c = (told g c).before
