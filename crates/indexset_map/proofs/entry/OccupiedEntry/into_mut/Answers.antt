use Rattle.std.proofs.Common.{refl}
use Rattle.indexset_map.proofs.entry.OccupiedEntry.into_mut.Goals as goal

pub returns : goal.returns
returns g c = ((refl, λ w. refl), record { writes_back = tt; value = c.value_in.ensures.value })
