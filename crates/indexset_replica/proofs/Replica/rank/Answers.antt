use Rattle.std.proofs.Common.{◌≡◌, slice_get, ap, ◌∙◌, subst, Ordering}
use Rattle.indexset_core.specs.Nodes.{concat}
use Rattle.indexset_core.specs.Parted.{IsParted, less_count}
use Rattle.indexset_replica.proofs.KeySearchLemmas.{all_before, there_inside, there_item}
use Rattle.indexset_replica.proofs.Replica.rank.Given.{Over}
use Rattle.indexset_replica.proofs.Replica.rank.Goals.{After-drop-value}
use Rattle.indexset_replica.proofs.Replica.rank.Goals as goal

-- the items are found in order, and how many of them are below
module _ (g : Over) (c : After-drop-value g) where
  abbrev answer : g.row.T.Denot → Ordering
  answer x = g.Q.LookupKey.order x c.args.value

  parted : IsParted answer (concat c.args.self.now.nodes)
  parted = subst (λ p. IsParted (λ x. g.Q.LookupKey.order x p.0) (concat c.args.self.now.nodes)) c.probe.ensures.key c.probe.ensures.parted

  is : c.count_before.result ≡ less_count answer (concat c.args.self.now.nodes)
  is = rw c.probe.ensures.key at c.count_before.ensures

pub returns-clause-at_rank : goal.returns-clause-at_rank
returns-clause-at_rank g c = λ has. ap (slice_get (concat c.args.self.now.nodes)) (is g c) ∙ there_item (answer g c) _ (parted g c) has

pub returns-clause-inside : goal.returns-clause-inside
returns-clause-inside g c = λ has. rw (is g c) (there_inside (answer g c) _ (parted g c) has)

pub returns-clause-before : goal.returns-clause-before
returns-clause-before g c = rw (is g c) (all_before (answer g c) _ (parted g c))
