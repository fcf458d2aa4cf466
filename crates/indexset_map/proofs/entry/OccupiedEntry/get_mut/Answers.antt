use Rattle.std.proofs.Common.{refl}
use Rattle.indexset_map.specs.Entry.{still_inside}
use Rattle.indexset_map.proofs.EntryLemmas.{same_entry}
use Rattle.indexset_map.proofs.entry.OccupiedEntry.get_mut.Goals as goal

pub invariant_of-self-lent : goal.invariant_of-self-lent
invariant_of-self-lent g c = λ w. (c.args.self.now.item, (still_inside c.args.self.now w, tt))

pub returns : goal.returns
returns g c = ((refl, λ w. same_entry c.args.self.now w _ _), record { writes_back = tt; value = c.value_in.ensures.value })
