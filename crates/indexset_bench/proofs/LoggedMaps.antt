-- The events of a command to a logged map.
use Rattle.std.proofs.Common.{◌≡◌, ℕ, true, List, [], Ordering, refl}
use Rattle.indexset_core.specs.Nodes.{concat}
use Rattle.indexset_core.specs.Order.{has_equal}
use Rattle.indexset_events.specs.Table.{checked_put_events}

-- a checked put of a key that is present has no events
pub checked_there : {T : Type 0} (cmp : T → T → Ordering) (size : ℕ) (ns : List (List T)) (v : T) → has_equal cmp (concat ns) v ≡ true → checked_put_events cmp size ns v ≡ []
unfolding checked_put_events
checked_there cmp size ns v h = rw h refl
