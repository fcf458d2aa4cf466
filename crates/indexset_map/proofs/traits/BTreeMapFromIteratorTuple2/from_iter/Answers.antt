use Rattle.indexset_set.proofs.CallerLemmas.{drained}
use Rattle.indexset_map.proofs.traits.BTreeMapFromIteratorTuple2.from_iter.Goals as goal

pub returns-in-Ok : goal.returns-in-Ok
returns-in-Ok g c =
    let made = c.in-Ok.ensures.inserted in
    let whole = made.2 in
    record { ran = (made.0, whole.0.items, made.1, drained _ made.0 whole.0 whole.1 whole.2, whole.3) }
