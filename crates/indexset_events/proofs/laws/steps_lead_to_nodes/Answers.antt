use Rattle.indexset_events.proofs.ReplayTheorem.{step_nodes}
use Rattle.indexset_events.proofs.AscendingListLemmas.{nodes_tested, tested_nodes}
use Rattle.indexset_events.proofs.laws.steps_lead_to_nodes.Goals as goal

pub returns-clause-passed : goal.returns-clause-passed
returns-clause-passed g c = tested_nodes g.T.Ord.cmp

pub returns-clause-passes : goal.returns-clause-passes
returns-clause-passes g c = nodes_tested g.T.Ord.cmp

pub returns-clause-step : goal.returns-clause-step
returns-clause-step g c = step_nodes g.T.Ord.cmp
