use Rattle.std.proofs.Common.{◌≡◌, Some, ap, sym, ◌∙◌}
use Rattle.std.specs.Ordering.{nat_cmp}
use Rattle.indexset_c.proofs.PairLemmas.{absent_entry}
use Rattle.indexset_c.proofs.map_keys.indexset_map_remove.Goals as goal

-- a key without a value is absent, and removing it does not change the map
pub returns-clause-unchanged : goal.returns-clause-unchanged
returns-clause-unchanged c h =
    let m = c.deref_mut.result.now in
    let was : Some m ≡ c.args.map.now.slot.value = ap Some c.deref_mut.ensures.value ∙ c.in-Some.ensures.taken in
    let none = sym c.remove-found.ensures.value ∙ c.write.ensures.absent h in
    c.put.ensures ∙ (ap Some (c.remove-found.ensures.rest ∙ absent_entry nat_cmp m c.args.key none) ∙ was)
