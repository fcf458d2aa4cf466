use Rattle.std.proofs.Common.{◌≡◌, arith, Ordering}
use Rattle.indexset_core.specs.Nodes.{concat}
use Rattle.indexset_core.specs.Parted.{less_count, not_greater_count}
use Rattle.indexset_replica.proofs.KeySearchLemmas.{count_equal}
use Rattle.indexset_replica.proofs.Replica.count.Given.{Over}
use Rattle.indexset_replica.proofs.Replica.count.Goals.{After-count_before}
use Rattle.indexset_replica.proofs.Replica.count.Goals as goal

-- how many items are below, and how many are not above
module _ (g : Over) (c : After-count_before g) where
  abbrev answer : g.row.T.Denot → Ordering
  answer x = g.Q.LookupKey.order x c.args.value

  low : c.count_before.result ≡ less_count answer (concat c.args.self.now.nodes)
  low = rw c.probe-2.ensures.key at c.count_before.ensures

  high : c.count_up_to-past.result ≡ not_greater_count answer (concat c.args.self.now.nodes)
  high = rw c.probe.ensures.key at c.count_up_to-past.ensures

pub overflow_sub-result : goal.overflow_sub-result
overflow_sub-result g c = omega (arith, low g c, high g c, count_equal (answer g c) (concat c.args.self.now.nodes))

pub returns : goal.returns
returns g c =
    let d = (goal.at.returns g c).After-count_before in
    omega (arith, low g d, high g d, count_equal (answer g d) (concat c.args.self.now.nodes))
