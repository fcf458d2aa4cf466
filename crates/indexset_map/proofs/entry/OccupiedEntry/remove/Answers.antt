use Rattle.indexset_map.proofs.EntryLemmas.{pair_value}
use Rattle.indexset_map.proofs.entry.OccupiedEntry.remove.Goals as goal

pub returns-clause-value : goal.returns-clause-value
returns-clause-value g c = pair_value _ c.take_at.result c.take_at.ensures.value

pub returns-clause-removed : goal.returns-clause-removed
returns-clause-removed g c = c.take_at.ensures.rest
