use Rattle.indexset_map.proofs.entry.OccupiedEntry.remove_entry.Goals as goal

pub returns-clause-pair : goal.returns-clause-pair
returns-clause-pair g c = c.take_at.ensures.value

pub returns-clause-removed : goal.returns-clause-removed
returns-clause-removed g c = c.take_at.ensures.rest
