use Rattle.indexset_follow.proofs.Programs.{told_count, told_first, told_fit, told_numbered, told_replayed}
use Rattle.indexset_follow.proofs.laws.told_events_lead_to_the_nodes.Goals as goal

pub returns-clause-numbered : goal.returns-clause-numbered
returns-clause-numbered c = told_numbered

pub returns-clause-replayed : goal.returns-clause-replayed
returns-clause-replayed c = told_replayed

pub returns-clause-count : goal.returns-clause-count
returns-clause-count c = told_count

pub returns-clause-fits : goal.returns-clause-fits
returns-clause-fits c = told_fit

pub returns-clause-first : goal.returns-clause-first
returns-clause-first c = told_first
