use Rattle.indexset_events.proofs.ReplayTheorem.{length-numbered, numbered_is, numbers_off}
use Rattle.indexset_events.proofs.laws.numbered_by_place.Goals as goal

pub returns-clause-numbers : goal.returns-clause-numbers
returns-clause-numbers g c = numbered_is

pub returns-clause-unassigned : goal.returns-clause-unassigned
returns-clause-unassigned g c = numbers_off

pub returns-clause-count : goal.returns-clause-count
returns-clause-count g c = length-numbered
