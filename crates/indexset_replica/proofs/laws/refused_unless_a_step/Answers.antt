use Rattle.indexset_events.proofs.CallerLemmas.{nodes_ruled}
use Rattle.indexset_replica.proofs.StepLemmas.{refusal_law}
use Rattle.indexset_replica.proofs.laws.refused_unless_a_step.Goals as goal

pub returns : goal.returns
returns g c = λ ns next e nodes. refusal_law g.T.Ord.cmp ns next e g.met.T.Ord.total (nodes_ruled g.T.Ord.cmp ns nodes)
