use Rattle.indexset_replica.proofs.DeliveryLemmas.{reached, reached_once}
use Rattle.indexset_replica.proofs.laws.reached_in_one_pass.Goals as goal

pub returns-clause-found : goal.returns-clause-found
returns-clause-found c = reached

pub returns-clause-once : goal.returns-clause-once
returns-clause-once c = reached_once
