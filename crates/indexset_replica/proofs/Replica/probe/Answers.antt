use Rattle.std.proofs.Common.{ap}
use Rattle.indexset_core.proofs.CallerLemmas.{parted_by_sought}
use Rattle.indexset_core.specs.Nodes.{concat}
use Rattle.indexset_replica.proofs.Replica.probe.Goals as goal

pub returns-clause-parted : goal.returns-clause-parted
returns-clause-parted g c =
    parted_by_sought g.met.Q.LookupKey.acts_as_key (concat c.args.self.now.nodes) (rw (ap (λ t. t.nodes) c.self.view_is) at c.self.invariant.nodes.ascending) c.new.result.0
